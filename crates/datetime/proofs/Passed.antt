-- What stands in a part that is passed.
use mathlib.Core.Path.{◌≡◌, refl, sym, ap, subst, subst⁻¹}
use mathlib.Core.Bool.{Bool, true, false, cond}
use mathlib.Core.List.{List}
use Prim.Native.Nat.{ℕ, ◌+◌, ◌*◌, ◌%◌, ◌≤◌, ◌<◌}
use Prim.Native.Char.{code}
use native.Mathlib.Omega.{arith}
use native.Mathlib.Nat.{add-zero}
use lib.Dec.{T, eqb, ltb, eqb→eq}
use lib.ListN.{length, get_or, get_or-eq_default}
use borrow.Author.Tests.{ne_eqb, ltb-true, ltb-false}
use lib.IntN.{ℤ, sub_ℕ}
use Rattle.std.specs.Prelude.{Result, Ok, Err}
use Rattle.form.specs.declared.Stop.{Stop}
use Rattle.form.specs.Verdict.{of_form, stops_at}
use Rattle.datetime.specs.Calendar.{day_number}
use Rattle.datetime.specs.Instant.{digit_of, number}
use Rattle.datetime.specs.Plain.{is_digit, pair_at, is, leap_in, month_length}
use Rattle.datetime.specs.Reading.{and_then, within, pair_stop, two_digits, marked, date, clock, ended, offset, zoned, reading}
use Rattle.datetime.proofs.Formulas.{month_days_lem}
use Rattle.datetime.proofs.Days.{month_length_lem}
use Rattle.datetime.proofs.Listing.{is_sign}
use Rattle.datetime.proofs.Onward.{in_range, to_from, by_digits}

-- what is read after a stop is nothing
stopped : {A B : Type 0} {x : Stop} {b : B} → ◌≡◌ {A = Result B Stop} (Err x) (Ok b) → A
stopped e = absurd (let z : ◌≡◌ {A = ℕ} 0 1 = cc in omega arith)

pub through : {A B : Type 0} (v : Result A Stop) (f : A → Result B Stop) (b : B) → and_then v f ≡ Ok b → (a : A) × (v ≡ Ok a) × (f a ≡ Ok b)
through (Ok a) f b e = (a, refl, e)
through (Err x) f b e = stopped e

module _ (s : List ℕ) where
  -- a byte that is not 0 stands in the text
  pub there : (i : ℕ) → 0 < get_or s i 0 → i < length s
  there i h = go (ltb i (length s)) refl
    where
      go : (t : Bool) → ltb i (length s) ≡ t → i < length s
      go true e = ltb-true i (length s) e
      go false e = absurd (omega (arith, get_or-eq_default s 0 (ltb-false i (length s) e)))

  -- two digits that show a number below 100 stand in the text
  pub pair_there : (i : ℕ) → pair_at s i < 100 → i + 1 < length s
  pair_there i =
      by_digits (λ v. v < 100 → i + 1 < length s) (get_or s i 0) (get_or s (i + 1) 0) (λ d h. there (i + 1) (omega (arith, d)))
      (λ h. absurd (omega arith))

  pub shown-number : (i : ℕ) → pair_at s i < 100 → pair_at s i ≡ number s i 2
  shown-number i h =
      rw (add-zero i) (by_digits (λ v. v < 100 → v ≡ (0 + digit_of (get_or s i 0)) * 10 + digit_of (get_or s (i + 1) 0)) (get_or s i 0)
      (get_or s (i + 1) 0) (λ d k. omega arith) (λ k. absurd (omega arith)) h)

  -- past the end nothing is shown
  pub not-shown : (i least most : ℕ) → most < 100 → length s ≤ i + 1 → false ≡ within least most (pair_at s i)
  not-shown i least most h l = go (within least most (pair_at s i)) refl
    where
      go : (t : Bool) → within least most (pair_at s i) ≡ t → false ≡ t
      go false e = refl
      go true e = absurd (omega (arith, pair_there i (omega (arith, (in_range least most (pair_at s i) e).1))))

  -- what stands in a part after which more is read
  pub after_two : {B : Type 0} (i least most : ℕ) (f : ℕ → Result B Stop) (b : B) → and_then (two_digits s i least most) f ≡ Ok b →
      (least ≤ pair_at s i) × (pair_at s i ≤ most) × (f (pair_at s i) ≡ Ok b)
  unfolding two_digits
  after_two {B} i least most f b = go (within least most (pair_at s i)) refl
    where
      go : (w : Bool) → within least most (pair_at s i) ≡ w →
          and_then (cond w (Ok (pair_at s i)) (stops_at (pair_stop s i least most))) f ≡ Ok b →
          (least ≤ pair_at s i) × (pair_at s i ≤ most) × (f (pair_at s i) ≡ Ok b)
      go true e h = let r = in_range least most (pair_at s i) e in (r.0, r.1, h)
      go false e h = stopped h

  abbrev Marked : ℕ → ℕ → ℕ → ℕ → Type 0
  Marked i c least most = (get_or s i 0 ≡ c) × (least ≤ pair_at s (i + 1)) × (pair_at s (i + 1) ≤ most)

  pub after_marked : {B : Type 0} (i c least most : ℕ) (f : ℕ → Result B Stop) (b : B) → and_then (marked s i c least most) f ≡ Ok b →
      Marked i c least most × (f (pair_at s (i + 1)) ≡ Ok b)
  unfolding marked
  after_marked {B} i c least most f b = go (is s i c) refl
    where
      go : (m : Bool) → is s i c ≡ m → and_then (cond m (two_digits s (i + 1) least most) (stops_at i)) f ≡ Ok b →
          Marked i c least most × (f (pair_at s (i + 1)) ≡ Ok b)
      go true e h =
          let r = after_two (i + 1) least most f b h in
          ((eqb→eq (get_or s i 0) c (subst⁻¹ T e tt), r.0, r.1), r.2)
      go false e h = stopped h

  after_end : {B : Type 0} (n : ℕ) (f : Unit {0} → Result B Stop) (b : B) → and_then (ended s n) f ≡ Ok b → (length s ≡ n) × (f tt ≡ Ok b)
  after_end {B} n f b = go (eqb (length s) n) refl
    where
      go : (t : Bool) → eqb (length s) n ≡ t → and_then (cond t of_form (stops_at n)) f ≡ Ok b → (length s ≡ n) × (f tt ≡ Ok b)
      go true e h = (eqb→eq (length s) n (subst⁻¹ T e tt), h)
      go false e h = stopped h

  -- the number that was read
  pub marked_read : (i c least most v : ℕ) → marked s i c least most ≡ Ok v → (v ≡ pair_at s (i + 1)) × (least ≤ v) × (v ≤ most)
  marked_read i c least most v e =
      let r = after_marked i c least most (λ x. Ok x) v (ap (λ (x : Result ℕ Stop). and_then x (λ y. Ok y)) e) in
      let is-v : pair_at s (i + 1) ≡ v = cc in
      (sym is-v, subst (λ (x : ℕ). least ≤ x) is-v r.0.1, subst (λ (x : ℕ). x ≤ most) is-v r.0.2)

-- a month of the calendar has 28 to 31 days
pub days_range : (l : Bool) (m : ℕ) → 1 ≤ m → m ≤ 12 → (28 ≤ month_length l m) × (month_length l m ≤ 31)
days_range l m a b =
    subst⁻¹ (λ (n : ℕ). (28 ≤ n) × (n ≤ 31)) (month_days_lem l m a (omega arith)) (month_length_lem l m a (omega arith))

module _ (s : List ℕ) where
  abbrev pub leaps : Bool
  leaps = leap_in (eqb (pair_at s 0 % 4) 0) (pair_at s 2)

  pub record DatePassed (n : ℕ) : Type 0 where
    pub century : (10 ≤ pair_at s 0) × (pair_at s 0 ≤ 99)
    pub year : (0 ≤ pair_at s 2) × (pair_at s 2 ≤ 99)
    pub month : Marked s 4 (code "-") 1 12
    pub day : Marked s 7 (code "-") 1 (month_length leaps (pair_at s 5))
    pub count : day_number (pair_at s 0 * 100 + pair_at s 2) (pair_at s 5) (pair_at s 8) ≡ n

  pub date_passed : (n : ℕ) → date s ≡ Ok n → DatePassed n
  unfolding date
  date_passed n e =
      let c = after_two s 0 10 99 _ n e in
      let x = after_two s 2 0 99 _ n c.2 in
      let m = after_marked s 4 (code "-") 1 12 _ n x.2 in
      let d = after_marked s 7 (code "-") 1 (month_length leaps (pair_at s 5)) _ n m.1 in
      record { century = (c.0, c.1); year = (x.0, x.1); month = m.0; day = d.0; count = cc }

  pub record ClockPassed (n : ℕ) : Type 0 where
    pub hour : Marked s 10 (code "T") 0 23
    pub minute : Marked s 13 (code ":") 0 59
    pub second : Marked s 16 (code ":") 0 59
    pub hundredth : Marked s 19 (code ".") 0 99
    pub thousandth : (48 ≤ get_or s 22 0) × (get_or s 22 0 ≤ 57)
    pub count :
        pair_at s 11 * 3600000 + pair_at s 14 * 60000 + pair_at s 17 * 1000 + (pair_at s 20 * 10 + digit_of (get_or s 22 0)) ≡ n

  last_passed : (n m : ℕ) → cond (is_digit (get_or s 22 0)) (Ok m) (stops_at 22) ≡ Ok n →
      (48 ≤ get_or s 22 0) × (get_or s 22 0 ≤ 57) × (m ≡ n)
  last_passed n m = go (is_digit (get_or s 22 0)) refl
    where
      go : (t : Bool) → is_digit (get_or s 22 0) ≡ t → cond t (Ok m) (stops_at 22) ≡ Ok n →
          (48 ≤ get_or s 22 0) × (get_or s 22 0 ≤ 57) × (m ≡ n)
      go true e h = let r = to_from 48 (get_or s 22 0) 57 (subst⁻¹ T e tt) in (r.0, r.1, cc)
      go false e h = stopped h

  pub clock-passed : (n : ℕ) → clock s ≡ Ok n → ClockPassed n
  unfolding clock
  clock-passed n e =
      let h = after_marked s 10 (code "T") 0 23 _ n e in
      let m = after_marked s 13 (code ":") 0 59 _ n h.1 in
      let c = after_marked s 16 (code ":") 0 59 _ n m.1 in
      let u = after_marked s 19 (code ".") 0 99 _ n c.1 in
      let l = last_passed n _ u.1 in
      record { hour = h.0; minute = m.0; second = c.0; hundredth = u.0; thousandth = (l.0, l.1); count = l.2 }

  pub record OffsetPassed (n : ℕ) : Type 0 where
    pub hour : (0 ≤ pair_at s 24) × (pair_at s 24 ≤ 19)
    pub minute : Marked s 26 (code ":") 0 59
    pub long : length s ≡ 29
    pub count : pair_at s 24 * 3600000 + pair_at s 27 * 60000 ≡ n

  pub offset-passed : (n : ℕ) → offset s ≡ Ok n → OffsetPassed n
  unfolding offset
  offset-passed n e =
      let h = after_two s 24 0 19 _ n e in
      let m = after_marked s 26 (code ":") 0 59 _ n h.2 in
      let l = after_end s 29 _ n m.1 in
      record { hour = (h.0, h.1); minute = m.0; long = l.0; count = cc }

  -- a zone that is read, and the instant by it
  pub data Zoned (n : ℕ) (z : ℤ) : Type 0 where
    utc_read : get_or s 23 0 ≡ code "Z" → length s ≡ 24 → sub_ℕ n 62167219200000 ≡ z → Zoned n z
    plus_read : (o : ℕ) → get_or s 23 0 ≡ code "+" → OffsetPassed o → sub_ℕ n (62167219200000 + o) ≡ z → Zoned n z
    minus_read : (o : ℕ) → get_or s 23 0 ≡ code "-" → OffsetPassed o → sub_ℕ (n + o) 62167219200000 ≡ z → Zoned n z

  pub zone-passed : (n : ℕ) (z : ℤ) → zoned s n ≡ Ok z → Zoned n z
  unfolding zoned
  zone-passed n z = go (is s 23 (code "Z")) (is s 23 (code "+")) (is s 23 (code "-")) refl refl refl
    where
      stands : (c : ℕ) → is s 23 c ≡ true → get_or s 23 0 ≡ c
      stands c e = eqb→eq (get_or s 23 0) c (subst⁻¹ T e tt)

      go : (u p m : Bool) → is s 23 (code "Z") ≡ u → is s 23 (code "+") ≡ p → is s 23 (code "-") ≡ m →
          cond u (and_then (ended s 24) (λ e. Ok (sub_ℕ n 62167219200000)))
          (cond p (and_then (offset s) (λ o. Ok (sub_ℕ n (62167219200000 + o))))
          (cond m (and_then (offset s) (λ o. Ok (sub_ℕ (n + o) 62167219200000))) (stops_at 23))) ≡ Ok z → Zoned n z
      go true p m f g k e = let l = after_end s 24 _ z e in utc_read (stands (code "Z") f) l.0 cc
      go false true m f g k e =
          let o = through (offset s) _ z e in plus_read o.0 (stands (code "+") g) (offset-passed o.0 o.1) cc
      go false false true f g k e =
          let o = through (offset s) _ z e in minus_read o.0 (stands (code "-") k) (offset-passed o.0 o.1) cc
      go false false false f g k e = stopped e

  -- a whole text that is read: a date, a clock time and a zone
  pub record Passed (z : ℤ) : Type 0 where
    pub day : ℕ
    pub time : ℕ
    pub date_read : DatePassed day
    pub clock_read : ClockPassed time
    pub zone_read : Zoned (day * 86400000 + time) z

  pub passed : (z : ℤ) → reading s ≡ Ok z → Passed z
  unfolding reading
  passed z e =
      let d = through (date s) _ z e in
      let t = through (clock s) _ z d.2 in
      record {
        day = d.0;
        time = t.0;
        date_read = date_passed d.0 d.1;
        clock_read = clock-passed t.0 t.1;
        zone_read = zone-passed (d.0 * 86400000 + t.0) z t.2;
      }

-- one of the signs
pub other_sign : (c : ℕ) → T (is_sign c) → (c ≡ code "+" → ⊥) → c ≡ code "-"
other_sign c t n = eqb→eq c (code "-") (rw (ne_eqb c (code "+") n) at t)
