-- What a reader of this crate can rely on: which texts have a value and in which range, what the zones are worth, leap days, and
-- when the writer refuses. That written text reads back is `round` of Round.
use mathlib.Core.Path.{◌≡◌, refl, sym, ap, subst, subst⁻¹, ◌∙◌}
use mathlib.Core.Bool.{Bool, true, false, cond}
use mathlib.Core.List.{List, [], ◌∷◌, ◌++◌}
use Rattle.std.specs.Prelude.{Ok, Err}
use Prim.Native.Nat.{ℕ, zero, suc, ◌+◌, ◌-◌, ◌*◌, ◌≤◌, ◌<◌}
use Prim.Native.Char.{code}
use native.Mathlib.Omega.{arith}
use lib.Dec.{T, ltb, eqb, le→leb}
use lib.ListN.{length, take}
use lib.Seq.{take_at}
use lib.IntN.{ℤ, pos, negsuc, neg_ℤ, ◌+ℤ◌, ◌-ℤ◌, sub_ℕ, +ℤ_idr, +ℤ_assoc, +ℤ_comm, neg_ℤ-+ℤ}
use lib.Signed.{le_z}
use borrow.Author.Tests.{ltb-true, eqb-false}
use Rattle.octets.specs.Ascii.{ascii}
use Rattle.octets.specs.Bytes.{Bytes}
use Rattle.octets.specs.Decimal.{in_digits}
use Rattle.octets.proofs.Lists.{bytes-append}
use Rattle.form.specs.Regex.{judge}
use Rattle.form.specs.Listings.{date_time_form}
use Rattle.form.specs.Verdict.{Verdict, of_form, value_by}
use Rattle.form.specs.declared.Unwritten.TheVariants.{NoRoom, OutsideYears}
use Rattle.datetime.specs.Calendar.{leap, month_days}
use Rattle.datetime.specs.Instant.{number, Civil, civil_of, time_of, spelled, epoch, offset_after, instant_of, read_date_time, date_time_text, in_years, write_date_time}
use Rattle.datetime.proofs.Signed.{epoch-is, minus, outside}
use Rattle.datetime.proofs.Texts.{Valid, Zone, utc, away, in_form_lem, OfForm, parts_of}
use Rattle.datetime.proofs.Values.{civil_back, valid_of, read_value, neither, ahead, behind, back_two, back_four}
use Rattle.datetime.proofs.Round.{time_range}

-- a difference of two naturals, between ends
no_less : (a b n : ℕ) → b ≤ a + n → T (le_z (neg_ℤ (pos n)) (sub_ℕ a b))
no_less a b zero h = go (ltb a b) refl
  where
    go : (t : Bool) → ltb a b ≡ t → T (le_z (pos 0) (cond t (negsuc (b - suc a)) (pos (a - b))))
    go true e = absurd (omega (arith, ltb-true a b e))
    go false e = le→leb 0 (a - b) (omega arith)
no_less a b (suc n) h = go (ltb a b) refl
  where
    go : (t : Bool) → ltb a b ≡ t → T (le_z (negsuc n) (cond t (negsuc (b - suc a)) (pos (a - b))))
    go true e = le→leb (b - suc a) n (omega (arith, ltb-true a b e))
    go false e = tt

no_more : (a b n : ℕ) → a ≤ b + n → T (le_z (sub_ℕ a b) (pos n))
no_more a b n h = go (ltb a b) refl
  where
    go : (t : Bool) → ltb a b ≡ t → T (le_z (cond t (negsuc (b - suc a)) (pos (a - b))) (pos n))
    go true e = tt
    go false e = le→leb (a - b) n (omega arith)

-- an offset is at most 19:59
either : (b : Bool) (x y k : ℕ) → x ≤ k → y ≤ k → cond b x y ≤ k
either true x y k h g = h
either false x y k h g = g

offset_most : (c : Civil) (sign : ℕ) (zone : List ℕ) → Zone zone → offset_after sign (spelled c ++ zone) ≤ 71940000
unfolding offset_after
offset_most c sign zone utc = either (eqb (code "Z") sign) 0 0 71940000 (omega arith) (omega arith)
offset_most c sign zone (away k h n g hh hn) = either (eqb k sign) _ 0 71940000
    (omega (arith, back_two h (omega arith), back_two n (omega arith))) (omega arith)

-- `form`: a text has a value exactly if it is of listing 12's form, and the value is at most 19:59 from the writer's ends
pub record Readable (s : List ℕ) : Type 0 where
  pub instant : ℤ
  pub value : read_date_time s ≡ Ok instant
  pub least : T (le_z (neg_ℤ (pos 30610295940000)) instant)
  pub most : T (le_z instant (pos 253402372739999))

readable : (s : List ℕ) → OfForm s → judge date_time_form s ≡ of_form → Readable s
readable s t j =
    let c = t.civil in
    let r = time_range c t.valid in
    let e : time_of (civil_of s) ≡ time_of c = ap time_of (ap civil_of t.whole ∙ civil_back c t.valid t.zone) in
    let plus = subst⁻¹ (λ (l : List ℕ). offset_after (code "+") l ≤ 71940000) t.whole (offset_most c (code "+") t.zone t.zoned) in
    let minus = subst⁻¹ (λ (l : List ℕ). offset_after (code "-") l ≤ 71940000) t.whole
    (offset_most c (code "-") t.zone t.zoned) in
    record {
      instant = instant_of s;
      value = sym (read_value s of_form (sym j) refl (instant_of s) refl);
      least = no_less (time_of (civil_of s) + offset_after (code "-") s) (epoch + offset_after (code "+") s) 30610295940000
          (omega (arith, r.0, e, plus, epoch-is));
      most = no_more (time_of (civil_of s) + offset_after (code "-") s) (epoch + offset_after (code "+") s) 253402372739999
          (omega (arith, r.1, e, minus, epoch-is));
    }

pub form : (s : List ℕ) → Bytes s → (judge date_time_form s ≡ of_form → Readable s) ×
    ((z : ℤ) → read_date_time s ≡ Ok z → judge date_time_form s ≡ of_form)
unfolding read_date_time
form s b = (λ j. readable s (parts_of s b j) j, λ z e. go (judge date_time_form s) z e)
  where
    go : (v : Verdict) (z : ℤ) → value_by v (instant_of s) ≡ Ok z → v ≡ of_form
    go (Ok u) z e = refl
    go (Err x) z e = absurd (let k : ◌≡◌ {A = ℕ} 0 1 = cc in omega arith)

-- `refused`: the writer answers 22 exactly outside its ends
pub refused : (z : ℤ) (room : ℕ) → (in_years z ≡ false → write_date_time z room ≡ Err OutsideYears) ×
    (write_date_time z room ≡ Err OutsideYears → in_years z ≡ false)
unfolding write_date_time
refused z room = (λ e. sym (outside z room e), go (in_years z) (ltb room (length (date_time_text z))))
  where
    go : (b t : Bool) → cond b (cond t (Err NoRoom) (Ok (length (date_time_text z)))) (Err OutsideYears) ≡ Err OutsideYears → b ≡ false
    go false t e = refl
    go true true e = absurd (let k : ◌≡◌ {A = ℕ} 0 1 = cc in omega arith)
    go true false e = absurd (let k : ◌≡◌ {A = ℕ} 0 1 = cc in omega arith)

-- taking naturals off, and adding them
sub_more : (a e o : ℕ) → sub_ℕ a (e + o) ≡ sub_ℕ a e -ℤ pos o
sub_more a e o =
    sym (minus a (e + o)) ∙ ap (λ (x : ℤ). pos a +ℤ x) (neg_ℤ-+ℤ (pos e) (pos o)) ∙ sym (+ℤ_assoc (pos a) (neg_ℤ (pos e)) (neg_ℤ (pos o)))
    ∙ ap (λ (x : ℤ). x -ℤ pos o) (minus a e)

more_sub : (a e o : ℕ) → sub_ℕ (a + o) e ≡ sub_ℕ a e +ℤ pos o
more_sub a e o =
    sym (minus (a + o) e) ∙ +ℤ_assoc (pos a) (pos o) (neg_ℤ (pos e)) ∙ ap (λ (x : ℤ). pos a +ℤ x) (+ℤ_comm (pos o) (neg_ℤ (pos e)))
    ∙ sym (+ℤ_assoc (pos a) (neg_ℤ (pos e)) (pos o)) ∙ ap (λ (x : ℤ). x +ℤ pos o) (minus a e)

-- what a valid local part and a zone are worth
module _ (c : Civil) (v : Valid c) where
  abbrev local : ℤ
  local = sub_ℕ (time_of c) 62167219200000

  time_of_lem : (zone : List ℕ) → time_of c ≡ time_of (civil_of (spelled c ++ zone))
  time_of_lem zone = sym (ap time_of (civil_back c v zone))

  reads : (zone : List ℕ) → Zone zone → (z : ℤ) → z ≡ instant_of (spelled c ++ zone) → read_date_time (spelled c ++ zone) ≡ Ok z
  reads zone k z e = sym (read_value (spelled c ++ zone) of_form (sym (in_form_lem c v zone k)) refl z e)

  reads_utc : read_date_time (spelled c ++ code "Z" ∷ []) ≡ Ok local
  reads_utc =
      let s = spelled c ++ code "Z" ∷ [] in
      reads (code "Z" ∷ []) utc local (neither s (time_of c) (time_of_lem (code "Z" ∷ [])) (eqb-false 90 43 refl) (eqb-false 90 45 refl))

  module _ (h n : ℕ) (hh : h < 20) (hn : n < 60) where
    abbrev offset : ℕ
    offset = h * 3600000 + n * 60000

    abbrev signed : ℕ → List ℕ
    signed sign = sign ∷ in_digits 2 h ++ code ":" ∷ in_digits 2 n

    shown : (sign : ℕ) → offset ≡ number (spelled c ++ signed sign) 24 2 * 3600000 + number (spelled c ++ signed sign) 27 2 * 60000
    shown sign = λ i. sym (back_two h (omega arith)) i * 3600000 + sym (back_two n (omega arith)) i * 60000

    reads_plus : read_date_time (spelled c ++ signed (code "+")) ≡ Ok (local -ℤ pos offset)
    reads_plus =
        let s = spelled c ++ signed (code "+") in
        reads (signed (code "+")) (away (code "+") h n tt hh hn) (local -ℤ pos offset)
        (sym (sub_more (time_of c) 62167219200000 offset) ∙ ahead s (time_of c) (time_of_lem (signed (code "+"))) refl offset
        (shown (code "+")))

    reads_minus : read_date_time (spelled c ++ signed (code "-")) ≡ Ok (local +ℤ pos offset)
    reads_minus =
        let s = spelled c ++ signed (code "-") in
        reads (signed (code "-")) (away (code "-") h n tt hh hn) (local +ℤ pos offset)
        (sym (more_sub (time_of c) 62167219200000 offset) ∙ behind s (time_of c) (time_of_lem (signed (code "-"))) refl offset
        (shown (code "-")))

-- `zones`: of every local part, `Z`, `+00:00` and `-00:00` read to one value, a `+` offset to that less it, a `-` offset to that and it
pub record Zones (p : List ℕ) : Type 0 where
  pub instant : ℤ
  pub utc_value : read_date_time (p ++ code "Z" ∷ []) ≡ Ok instant
  pub plus_none : read_date_time (p ++ ascii "+00:00") ≡ Ok instant
  pub minus_none : read_date_time (p ++ ascii "-00:00") ≡ Ok instant
  pub plus : (h n : ℕ) → h < 20 → n < 60 → read_date_time (p ++ code "+" ∷ in_digits 2 h ++ code ":" ∷ in_digits 2 n) ≡ Ok
      (instant -ℤ pos (h * 3600000 + n * 60000))
  pub minus_value : (h n : ℕ) → h < 20 → n < 60 → read_date_time (p ++ code "-" ∷ in_digits 2 h ++ code ":" ∷ in_digits 2 n) ≡ Ok
      (instant +ℤ pos (h * 3600000 + n * 60000))

pub zones : (p : List ℕ) → Bytes p → length p ≡ 23 → judge date_time_form (p ++ code "Z" ∷ []) ≡ of_form → Zones p
zones p b l j =
    let t = parts_of (p ++ code "Z" ∷ []) (bytes-append p (code "Z" ∷ []) b (omega arith, tt)) j in
    subst⁻¹ Zones (front t) (worth t.civil t.valid)
  where
    front : (t : OfForm (p ++ code "Z" ∷ [])) → p ≡ spelled t.civil
    front t = sym (take_at p (code "Z" ∷ []) 23 l) ∙ ap (take 23) t.whole

    worth : (c : Civil) → Valid c → Zones (spelled c)
    worth c v =
        record {
          instant = local c v;
          utc_value = reads_utc c v;
          plus_none = reads_plus c v 0 0 (omega arith) (omega arith) ∙ ap Ok (+ℤ_idr (local c v));
          minus_none = reads_minus c v 0 0 (omega arith) (omega arith) ∙ ap Ok (+ℤ_idr (local c v));
          plus = reads_plus c v;
          minus_value = reads_minus c v;
        }

-- `leap_days`: of the years 1000 to 9999 exactly the leap years have a 29th of February
abbrev feb29 : ℕ → List ℕ
feb29 y = in_digits 4 y ++ ascii "-02-29T00:00:00.000Z"

abbrev leap_day : ℕ → Civil
leap_day y = record { year = y; month = 2; day = 29; hour = 0; minute = 0; second = 0; milli = 0 }

twenty_nine : (l : Bool) → 29 ≤ month_days l 2 → l ≡ true
twenty_nine true h = refl
twenty_nine false h = absurd (omega arith)

pub leap_days : (y : ℕ) → 1000 ≤ y → y ≤ 9999 →
    (judge date_time_form (feb29 y) ≡ of_form → leap y ≡ true) × (leap y ≡ true → judge date_time_form (feb29 y) ≡ of_form)
leap_days y lo hi = (λ j. only j, λ e. in_form_lem (leap_day y) (valid e) (code "Z" ∷ []) utc)
  where
    valid : leap y ≡ true → Valid (leap_day y)
    valid e =
        record {
          year_least = lo;
          year_most = hi;
          month_least = omega arith;
          month_most = omega arith;
          day_least = omega arith;
          day_most = subst⁻¹ (λ (l : Bool). 29 ≤ month_days l 2) e (omega arith);
          hour_small = omega arith;
          minute_small = omega arith;
          second_small = omega arith;
          milli_small = omega arith;
        }

    text-bytes : Bytes (feb29 y)
    text-bytes = omega arith

    only : judge date_time_form (feb29 y) ≡ of_form → leap y ≡ true
    only j = twenty_nine (leap y) (subst (λ (x : ℕ). 29 ≤ month_days (leap x) 2) (back_four y (omega arith))
        (valid_of (feb29 y) text-bytes j).day_most)
