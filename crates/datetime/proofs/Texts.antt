-- A text is of listing 12's form exactly if it is a valid date and clock time, spelled, and a zone.
use Prim.Native.Nat.{ℕ, zero, suc, ◌+◌, ◌*◌, ◌/◌, ◌%◌, ◌≤◌, ◌<◌}
use Prim.Native.Char.{code}
use native.Mathlib.Omega.{arith}
use native.Mathlib.Decide.{ℕ_discrete}
use native.Mathlib.Nat.{add-zero}
use mathlib.Core.Path.{◌≡◌, refl, sym, ap, ap₂, subst, subst⁻¹, ◌∙◌}
use mathlib.Core.Bool.{Bool, true, false, ◌&&◌, ◌||◌}
use mathlib.Core.List.{List, [], ◌∷◌, ◌++◌}
use borrow.Author.Tests.{eq-eqb, ne_eqb, le-leb}
use lib.ListN.{length, get_or, drop}
use lib.Seq.{drop-cons, drop-length}
use lib.Dec.{T, eqb}
use lib.IntN.{ℤ}
use Rattle.octets.specs.Bytes.{Bytes}
use Rattle.octets.specs.Decimal.{in_digits}
use Rattle.octets.proofs.Lists.{bytes-append}
use Rattle.form.specs.Regex.{judge}
use Rattle.form.specs.Listings.{date_time_form}
use Rattle.std.specs.Prelude.{Result, Ok}
use Rattle.form.specs.declared.Stop.{Stop}
use Rattle.form.specs.Verdict.{of_form}
use Rattle.datetime.specs.Calendar.{leap, month_days}
use Rattle.datetime.specs.Instant.{digit_of, last_digit, Civil, spelled}
use Rattle.datetime.specs.Plain.{pair, pair_at, leap_in}
use Rattle.datetime.specs.Reading.{and_then, within, two_digits, marked, days_of, date, clock, offset, zoned, reading}
use Rattle.datetime.proofs.Days.{month_length_lem}
use Rattle.datetime.proofs.Formulas.{agree, month_days_lem}
use Rattle.datetime.proofs.Onward.{by_digits}
use Rattle.datetime.proofs.Listing.{is_sign}
use Rattle.datetime.proofs.Passed.{DatePassed, ClockPassed, OffsetPassed, Zoned, utc_read, plus_read, minus_read, passed}
use Rattle.datetime.proofs.Passed.{leaps, days_range, through, other_sign}
use Rattle.datetime.proofs.Walk.{reading_on}

-- the leap rule by the two halves of the year
pub leap_halves : (c x : ℕ) → x < 100 → leap (c * 100 + x) ≡ leap_in (eqb (c % 4) 0) x
leap_halves c x h =
    let f : (c * 100 + x) % 4 ≡ x % 4 = omega arith in
    let g : (c * 100 + x) % 100 ≡ x = omega arith in
    let k : (c * 100 + x) % 400 ≡ c % 4 * 100 + x = omega arith in
    rw (f, g, k) (elim (ℕ_discrete x 0) [
      | yes z ↦ rw z (elim (ℕ_discrete (c % 4) 0) [
        | yes a ↦ simp (eq-eqb (c % 4) 0 a, eq-eqb (c % 4 * 100 + 0) 0 (omega arith))
        | no a ↦ simp (ne_eqb (c % 4) 0 a, ne_eqb (c % 4 * 100 + 0) 0 (omega arith))
      ])
      | no z ↦ simp (ne_eqb x 0 z, ne_eqb (c % 4 * 100 + x) 0 (omega arith)) (by_fourth (eqb (x % 4) 0) (eqb (c % 4) 0))
    ])
  where
    by_fourth : (a b : Bool) → (a && true || false) ≡ (a && (b || true))
    by_fourth true true = refl
    by_fourth true false = refl
    by_fourth false b = refl

-- four digits are two and two
pub year_halves : (c x : ℕ) → c < 100 → x < 100 → in_digits 4 (c * 100 + x) ≡ in_digits 2 c ++ in_digits 2 x
year_halves c x h k =
    let e₁ : (c * 100 + x) / 10 / 10 / 10 % 10 ≡ c / 10 % 10 = omega arith in
    let e₂ : (c * 100 + x) / 10 / 10 % 10 ≡ c % 10 = omega arith in
    let e₃ : (c * 100 + x) / 10 % 10 ≡ x / 10 % 10 = omega arith in
    let e₄ : (c * 100 + x) % 10 ≡ x % 10 = omega arith in
    rw (e₁, e₂, e₃, e₄)

-- a zone: `Z`, or a sign and hours and minutes
pub data Zone : List ℕ → Type 0 where
  utc : Zone (code "Z" ∷ [])
  away : (c h n : ℕ) → T (is_sign c) → h < 20 → n < 60 → Zone (c ∷ in_digits 2 h ++ code ":" ∷ in_digits 2 n)

-- a date and a clock time as they may stand in a text
pub record Valid (c : Civil) : Type 0 where
  pub year_least : 1000 ≤ c.year
  pub year_most : c.year ≤ 9999
  pub month_least : 1 ≤ c.month
  pub month_most : c.month ≤ 12
  pub day_least : 1 ≤ c.day
  pub day_most : c.day ≤ month_days (leap c.year) c.month
  pub hour_small : c.hour < 24
  pub minute_small : c.minute < 60
  pub second_small : c.second < 60
  pub milli_small : c.milli < 1000

-- three digits are two and one
pub milli_halves : (a b : ℕ) → b < 10 → in_digits 3 (a * 10 + b) ≡ in_digits 2 a ++ in_digits 1 b
milli_halves a b h =
    let e₁ : (a * 10 + b) / 10 / 10 % 10 ≡ a / 10 % 10 = omega arith in
    let e₂ : (a * 10 + b) / 10 % 10 ≡ a % 10 = omega arith in
    let e₃ : (a * 10 + b) % 10 ≡ b % 10 = omega arith in
    rw (e₁, e₂, e₃)

-- a text of the form, taken apart
pub record OfForm (s : List ℕ) : Type 0 where
  pub civil : Civil
  pub zone : List ℕ
  pub valid : Valid civil
  pub zoned : Zone zone
  pub whole : s ≡ spelled civil ++ zone

-- two bytes that make a number below 100 are its digits
pair-shown : (a b : ℕ) → pair a b < 100 → a ∷ b ∷ [] ≡ in_digits 2 (pair a b)
pair-shown a b =
    by_digits (λ v. v < 100 → a ∷ b ∷ [] ≡ in_digits 2 v) a b
    (λ d h. ap₂ (λ (x y : ℕ). x ∷ y ∷ []) (tens d) (ones d)) (λ h. absurd (omega arith))
  where
    tens : (48 ≤ a) × (a ≤ 57) × (48 ≤ b) × (b ≤ 57) → a ≡ last_digit ((digit_of a * 10 + digit_of b) / 10)
    tens d = omega arith

    ones : (48 ≤ a) × (a ≤ 57) × (48 ≤ b) × (b ≤ 57) → b ≡ last_digit (digit_of a * 10 + digit_of b)
    ones d = omega arith

-- and a number below 100 is read off its digits
pair_back : (x : ℕ) → x < 100 → pair (last_digit (x / 10)) (last_digit x) ≡ x
pair_back x h = agree (λ n. pair (last_digit (n / 10)) (last_digit n)) (λ n. n) 0 100 tt x (omega arith) h

-- the elements of a list one by one, and the rest
abbrev from : List ℕ → ℕ → ℕ → List ℕ → List ℕ
from s i zero rest = rest
from s i (suc n) rest = get_or s i 0 ∷ from s (suc i) n rest

spread : (s : List ℕ) (i n : ℕ) → i + n ≤ length s → drop i s ≡ from s i n (drop (i + n) s)
spread s i zero h = rw (add-zero i)
spread s i (suc n) h =
    let k : suc i + n ≤ length s = omega arith in
    let e : suc i + n ≡ i + suc n = omega arith in
    drop-cons s i 0 (omega arith) ∙ ap (λ (l : List ℕ). get_or s i 0 ∷ l)
    (spread s (suc i) n k ∙ ap (λ (m : ℕ). from s (suc i) n (drop m s)) e)

-- what stands in a text that was passed
module _ (s : List ℕ) where
  abbrev year : ℕ
  year = pair_at s 0 * 100 + pair_at s 2

  abbrev milli : ℕ
  milli = pair_at s 20 * 10 + digit_of (get_or s 22 0)

  abbrev shown : Civil
  shown =
      record {
        year = year;
        month = pair_at s 5;
        day = pair_at s 8;
        hour = pair_at s 11;
        minute = pair_at s 14;
        second = pair_at s 17;
        milli = milli;
      }

  module _ {day time : ℕ} (a : DatePassed s day) (b : ClockPassed s time) where
    valid : Valid shown
    valid =
        record {
          year_least = omega (arith, a.century.0);
          year_most = omega (arith, a.century.1, a.year.1);
          month_least = a.month.1;
          month_most = a.month.2;
          day_least = a.day.1;
          day_most = subst (λ (n : ℕ). pair_at s 8 ≤ n)
              (month_days_lem (leaps s) (pair_at s 5) a.month.1 (omega (arith, a.month.2))
              ∙ ap (λ (l : Bool). month_days l (pair_at s 5)) (sym (leap_halves (pair_at s 0) (pair_at s 2) (omega (arith, a.year.1)))))
              a.day.2;
          hour_small = omega (arith, b.hour.2);
          minute_small = omega (arith, b.minute.2);
          second_small = omega (arith, b.second.2);
          milli_small = omega (arith, b.hundredth.2, b.thousandth.1);
        }

    digits : (i : ℕ) → pair_at s i < 100 → get_or s i 0 ∷ get_or s (i + 1) 0 ∷ [] ≡ in_digits 2 (pair_at s i)
    digits i h = pair-shown (get_or s i 0) (get_or s (i + 1) 0) h

    last-shown : get_or s 22 0 ∷ [] ≡ in_digits 1 (digit_of (get_or s 22 0))
    last-shown =
        let e : get_or s 22 0 ≡ last_digit (digit_of (get_or s 22 0)) = omega (arith, b.thousandth) in
        ap (λ (c : ℕ). c ∷ []) e

    -- the text is what it shows, spelled
    laid : (zone : List ℕ) → from s 0 23 zone ≡ spelled shown ++ zone
    laid zone =
        let c = digits 0 (omega (arith, a.century.1)) in
        let x = digits 2 (omega (arith, a.year.1)) in
        let month = digits 5 (omega (arith, a.month.2)) in
        let day = digits 8 (omega (arith, a.day.2, (days_range (leaps s) (pair_at s 5) a.month.1 a.month.2).1)) in
        let hour = digits 11 (omega (arith, b.hour.2)) in
        let minute = digits 14 (omega (arith, b.minute.2)) in
        let second = digits 17 (omega (arith, b.second.2)) in
        let hundredth = digits 20 (omega (arith, b.hundredth.2)) in
        let e₄ = a.month.0 in
        let e₇ = a.day.0 in
        let e₁₀ = b.hour.0 in
        let e₁₃ = b.minute.0 in
        let e₁₆ = b.second.0 in
        let e₁₉ = b.hundredth.0 in
        let y : in_digits 2 (pair_at s 0) ++ in_digits 2 (pair_at s 2) ≡ in_digits 4 year = sym
        (year_halves (pair_at s 0) (pair_at s 2) (omega (arith, a.century.1)) (omega (arith, a.year.1))) in
        let w : in_digits 2 (pair_at s 20) ++ in_digits 1 (digit_of (get_or s 22 0)) ≡ in_digits 3 milli = sym
        (milli_halves (pair_at s 20) (digit_of (get_or s 22 0)) (omega (arith, b.thousandth.1))) in
        (λ i. c i ++ x i ++ e₄ i ∷ month i ++ e₇ i ∷ day i ++ e₁₀ i ∷ hour i ++ e₁₃ i ∷ minute i ++ e₁₆ i ∷ second i ++ e₁₉ i ∷ hundredth
        i ++ last-shown i ++ zone)
        ∙ (λ i. y i ++ code "-" ∷ in_digits 2 (pair_at s 5) ++ code "-" ∷ in_digits 2 (pair_at s 8) ++ code "T" ∷ in_digits 2 (pair_at s 11) ++
        code ":" ∷ in_digits 2 (pair_at s 14) ++ code ":" ∷ in_digits 2 (pair_at s 17) ++ code "." ∷ w i ++ zone)

    -- to the end of a text of n bytes
    to_end : (i n : ℕ) → length s ≡ i + n → drop i s ≡ from s i n []
    to_end i n e =
        spread s i n (omega arith)
        ∙ ap (from s i n) (ap (λ (k : ℕ). drop k s) (sym e) ∙ drop-length s)

    offset-zone : (c o : ℕ) → T (is_sign c) → get_or s 23 0 ≡ c → OffsetPassed s o → Zone (drop 23 s)
    offset-zone c o g e p =
        let hour = digits 24 (omega (arith, p.hour.1)) in
        let minute = digits 27 (omega (arith, p.minute.2)) in
        let colon = p.minute.0 in
        subst⁻¹ Zone (to_end 23 6 p.long ∙ (λ i. e i ∷ hour i ++ colon i ∷ minute i))
        (away c (pair_at s 24) (pair_at s 27) g (omega (arith, p.hour.1)) (omega (arith, p.minute.2)))

    zone_of : {n : ℕ} {z : ℤ} → Zoned s n z → Zone (drop 23 s)
    zone_of (utc_read e l v) = subst⁻¹ Zone (to_end 23 1 l ∙ ap (λ (c : ℕ). c ∷ []) e) utc
    zone_of (plus_read o e p v) = offset-zone (code "+") o tt e p
    zone_of (minus_read o e p v) = offset-zone (code "-") o tt e p

    reaches : {n : ℕ} {z : ℤ} → Zoned s n z → 23 ≤ length s
    reaches (utc_read e l v) = omega arith
    reaches (plus_read o e p v) = omega (arith, p.long)
    reaches (minus_read o e p v) = omega (arith, p.long)

pub parts_of : (s : List ℕ) → Bytes s → judge date_time_form s ≡ of_form → OfForm s
parts_of s b j =
    let r = through (reading s) (λ z. of_form) tt (sym (reading_on s b) ∙ j) in
    let p = passed s r.0 r.1 in
    let d = p.date_read in
    let c = p.clock_read in
    record {
      civil = shown s;
      zone = drop 23 s;
      valid = valid s d c;
      zoned = zone_of s d c p.zone_read;
      whole = spread s 0 23 (reaches s d c p.zone_read) ∙ laid s d c (drop 23 s);
    }

-- and back: what is spelled is read, part by part
abbrev Reads : {A : Type 0} → Result A Stop → Type 0
Reads {A} r = (a : A) × (r ≡ Ok a)

after_it : {A B : Type 0} (f : A → Result B Stop) {r : Result A Stop} {a : A} → r ≡ Ok a → Reads (f a) → Reads (and_then r f)
after_it f e g = (g.0, ap (λ (x : _). and_then x f) e ∙ g.1)

is_within : (least most v : ℕ) → least ≤ v → v ≤ most → within least most v ≡ true
is_within least most v a b = ap₂ ◌&&◌ (le-leb least v a) (le-leb v most b)

module _ (s : List ℕ) (i least most v : ℕ) (a : least ≤ v) (b : v ≤ most) where
  on_pair : pair_at s i ≡ v → two_digits s i least most ≡ Ok v
  unfolding two_digits
  on_pair e = rw (e, is_within least most v a b)

module _ (s : List ℕ) (i least most v : ℕ) (a : least ≤ v) (b : v ≤ most) where
  on_marked : (c : ℕ) → get_or s i 0 ≡ c → pair_at s (i + 1) ≡ v → marked s i c least most ≡ Ok v
  unfolding marked
  on_marked c m e = rw (eq-eqb (get_or s i 0) c m) (on_pair s (i + 1) least most v a b e)

by_sign : (k : ℕ) → T (is_sign k) → (P : ℕ → Type 0) → P (code "+") → P (code "-") → P k
by_sign k g P p m = elim (ℕ_discrete k (code "+")) [
  | yes e ↦ subst⁻¹ P e p
  | no n ↦ subst⁻¹ P (other_sign k g n) m
]

module _ (c : Civil) (v : Valid c) where
  abbrev hundreds : ℕ
  hundreds = c.year / 100

  abbrev place : ℕ
  place = c.year % 100

  hundreds_back : pair (last_digit (c.year / 10 / 10 / 10)) (last_digit (c.year / 10 / 10)) ≡ hundreds
  hundreds_back =
      let e : c.year / 10 / 10 ≡ hundreds = omega arith in
      ap (λ (n : ℕ). pair (last_digit (n / 10)) (last_digit n)) e ∙ pair_back hundreds (omega (arith, v.year_most))

  place_back : pair (last_digit (c.year / 10)) (last_digit c.year) ≡ place
  place_back =
      let e₁ : last_digit (c.year / 10) ≡ last_digit (place / 10) = omega arith in
      let e₂ : last_digit c.year ≡ last_digit place = omega arith in
      ap₂ pair e₁ e₂ ∙ pair_back place (omega arith)

  month_back : pair (last_digit (c.month / 10)) (last_digit c.month) ≡ c.month
  month_back = pair_back c.month (omega (arith, v.month_most))

  module _ (zone : List ℕ) where
    abbrev text : List ℕ
    text = spelled c ++ zone

    -- the month's days, as the reader counts them
    days_back : days_of hundreds place c.month ≡ month_days (leap c.year) c.month
    days_back =
        let e : hundreds * 100 + place ≡ c.year = omega arith in
        month_days_lem (leap_in (eqb (hundreds % 4) 0) place) c.month v.month_least (omega (arith, v.month_most))
        ∙ ap (λ (l : Bool). month_days l c.month) (sym (leap_halves hundreds place (omega arith)) ∙ ap leap e)

    spelled_date : Reads (date text)
    unfolding date
    spelled_date =
        let most = (month_length_lem (leap c.year) c.month v.month_least (omega (arith, v.month_most))).1 in
        after_it _ (on_pair text 0 10 99 hundreds (omega (arith, v.year_least)) (omega (arith, v.year_most)) hundreds_back)
        (after_it _ (on_pair text 2 0 99 place (omega arith) (omega arith) place_back)
        (after_it _ (on_marked text 4 1 12 c.month v.month_least v.month_most (code "-") refl month_back)
        (after_it _ (on_marked text 7 1 (days_of hundreds place c.month) c.day v.day_least
        (subst⁻¹ (λ (n : ℕ). c.day ≤ n) days_back v.day_most) (code "-") refl (pair_back c.day (omega (arith, v.day_most, most))))
        (_, refl))))

    spelled-clock : Reads (clock text)
    unfolding clock
    spelled-clock =
        let hour = v.hour_small in
        let minute = v.minute_small in
        let second = v.second_small in
        let milli = v.milli_small in
        after_it _ (on_marked text 10 0 23 c.hour (omega arith) (omega arith) (code "T") refl (pair_back c.hour (omega arith)))
        (after_it _ (on_marked text 13 0 59 c.minute (omega arith) (omega arith) (code ":") refl (pair_back c.minute (omega arith)))
        (after_it _ (on_marked text 16 0 59 c.second (omega arith) (omega arith) (code ":") refl (pair_back c.second (omega arith)))
        (after_it _ (on_marked text 19 0 99 (c.milli / 10) (omega arith) (omega arith) (code ".") refl (pair_back (c.milli / 10)
        (omega arith))) (
          c.hour * 3600000 + c.minute * 60000 + c.second * 1000 + (c.milli / 10 * 10 + digit_of (last_digit c.milli)),
          rw (is_within (code "0") (code "9") (last_digit c.milli) (omega arith) (omega arith)) refl,
        ))))

    text-bytes : Zone zone → Bytes text
    text-bytes z = bytes-append (spelled c) zone (omega arith) (zone-bytes z)
      where
        sign_byte : (k : ℕ) → T (is_sign k) → k < 256
        sign_byte k g = by_sign k g (λ (x : ℕ). x < 256) (omega arith) (omega arith)

        zone-bytes : {zone : List ℕ} → Zone zone → Bytes zone
        zone-bytes utc = omega arith
        zone-bytes (away k h n g hh hn) = (sign_byte k g, omega arith)

  spelled-offset : (k h n : ℕ) → h < 20 → n < 60 → Reads (offset (spelled c ++ k ∷ in_digits 2 h ++ code ":" ∷ in_digits 2 n))
  unfolding offset
  spelled-offset k h n hh hn =
      let s = spelled c ++ k ∷ in_digits 2 h ++ code ":" ∷ in_digits 2 n in
      after_it _ (on_pair s 24 0 19 h (omega arith) (omega arith) (pair_back h (omega arith)))
      (after_it _ (on_marked s 26 0 59 n (omega arith) (omega arith) (code ":") refl (pair_back n (omega arith))) (_, refl))

  spelled-zone : (m : ℕ) (zone : List ℕ) → Zone zone → Reads (zoned (spelled c ++ zone) m)
  unfolding zoned
  spelled-zone m zone utc = (_, refl)
  spelled-zone m zone (away k h n g hh hn) = by_sign k g
      (λ (x : ℕ). Reads (zoned (spelled c ++ x ∷ in_digits 2 h ++ code ":" ∷ in_digits 2 n) m))
      (after_it _ (spelled-offset (code "+") h n hh hn).1 (_, refl)) (after_it _ (spelled-offset (code "-") h n hh hn).1 (_, refl))

-- a valid date and clock time and a zone are of the form
pub in_form_lem : (c : Civil) → Valid c → (zone : List ℕ) → Zone zone → judge date_time_form (spelled c ++ zone) ≡ of_form
unfolding reading
in_form_lem c v zone z =
    let s = spelled c ++ zone in
    let d = spelled_date c v zone in
    let t = spelled-clock c v zone in
    let read = after_it (λ (d : ℕ). and_then (clock s) (λ t. zoned s (d * 86400000 + t))) d.1
    (after_it (λ (t : ℕ). zoned s (d.0 * 86400000 + t)) t.1 (spelled-zone c v (d.0 * 86400000 + t.0) zone z)) in
    reading_on s (text-bytes c v zone z) ∙ ap (λ (x : Result ℤ Stop). and_then x (λ n. of_form)) read.1
