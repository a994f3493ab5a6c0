-- The texts that the writers write are short: a text's length fits the mark's place.
use Prim.Native.Nat.{ℕ, zero, suc, ◌+◌, ◌/◌, ◌%◌, ◌^◌, ◌≤◌, ◌<◌}
use mathlib.Core.Path.{◌≡◌, refl, ◌∙◌}
use mathlib.Core.Bool.{Bool, true, false, cond, ◌||◌}
use mathlib.Core.List.{List, [], ◌∷◌, ◌++◌}
use native.Mathlib.Omega.{arith}
use lib.Dec.{eqb, leb, ltb}
use lib.IntN.{ℤ}
use lib.ListN.{length, length-append, length-map}
use borrow.Author.Tests.{eqb-true}
use Rattle.std.specs.Prelude.{Err}
use Rattle.form.specs.declared.Unwritten.TheVariants.{NotInForm, OutsideYears}
use Rattle.form.specs.Writing.{Written, into_room}
use Rattle.amount.specs.declared.Amount.{Amount}
use Rattle.amount.specs.Amount.{digit, whole_text, places, fraction_text, amount_text, write_amount}
use Rattle.uuid_text.specs.Id.{id_text, in_form, write_id}
use Rattle.uuid_text.proofs.Spelled.{whole}
use Rattle.datetime.specs.Instant.{date_time_text, in_years, write_date_time}
use Rattle.base64url.specs.Condition.{values_of, condition_text, write_condition}
use Rattle.base64url.specs.Letters.{letter_of}
use Rattle.base64url.proofs.Groups.{length-values}
use Rattle.vaikshurd.specs.Inner.{Short}

short_either : (t : Bool) (v w : Written) → Short v → Short w → Short (cond t v w)
short_either true v w p q = p
short_either false v w p q = q

short_text : (text : List ℕ) (room : ℕ) → length text < 4294967296 → Short (into_room text room)
short_text text room h = short_either (ltb room (length text)) _ _ tt h

-- n in at most k digits
length_whole : (k n : ℕ) → length (whole_text k n) ≤ k
unfolding whole_text
length_whole zero n = omega arith
length_whole (suc k) n = by (ltb n 10) (length_whole k (n / 10))
  where
    by : (t : Bool) → length (whole_text k (n / 10)) ≤ k →
        length (cond t (digit n ∷ []) (whole_text k (n / 10) ++ (digit (n % 10) ∷ []))) ≤ suc k
    by true h = omega arith
    by false h = simp length-append (omega arith)

length-places : (k p : ℕ) → length (places k p) ≤ k
unfolding places
length-places zero p = omega arith
length-places (suc k) p = by (eqb p 0) (length-places k (p % 10 ^ k))
  where
    by : (t : Bool) → length (places k (p % 10 ^ k)) ≤ k → length (cond t [] (digit (p / 10 ^ k) ∷ places k (p % 10 ^ k))) ≤ suc k
    by true h = omega arith
    by false h = omega arith

length-amount : (a : Amount) → length (amount_text a) ≤ 23
unfolding amount_text fraction_text
length-amount a = simp length-append (by (eqb a.remainder 0))
  where
    by : (t : Bool) → length (whole_text 18 a.units) + length (cond t [] (46 ∷ places 4 a.remainder)) ≤ 23
    by true = omega (arith, length_whole 18 a.units)
    by false = omega (arith, length_whole 18 a.units, length-places 4 a.remainder)

length_datetime : (z : ℤ) → length (date_time_text z) ≡ 24
unfolding date_time_text
length_datetime z = refl

length-condition : (b : List ℕ) → length b ≡ 32 → length (condition_text b) ≡ 43
unfolding condition_text
length-condition b e = length-map (values_of b) letter_of ∙ length-values 10 b e

module _ (room : ℕ) where
  pub amount_short : (a : Amount) → Short (write_amount a room)
  unfolding write_amount
  amount_short a =
      short_either (leb (10 ^ 18) a.units || leb (10 ^ 4) a.remainder) (Err NotInForm) (into_room (amount_text a) room) tt
      (short_text (amount_text a) room (omega (arith, length-amount a)))

  pub id_short : (b : List ℕ) → Short (write_id b room)
  unfolding write_id id_text
  id_short b =
      short_either (in_form b) (into_room (id_text b) room) (Err NotInForm) (short_text (id_text b) room (omega (arith, whole b))) tt

  pub datetime_short : (z : ℤ) → Short (write_date_time z room)
  unfolding write_date_time
  datetime_short z =
      short_either (in_years z) (into_room (date_time_text z) room) (Err OutsideYears)
      (short_text (date_time_text z) room (omega (arith, length_datetime z))) tt

  pub condition_short : (b : List ℕ) → Short (write_condition b room)
  unfolding write_condition
  condition_short b = by (eqb (length b) 32) refl
    where
      by : (t : Bool) → eqb (length b) 32 ≡ t → Short (cond t (into_room (condition_text b) room) (Err NotInForm))
      by true e = short_text (condition_text b) room (omega (arith, length-condition b (eqb-true (length b) 32 e)))
      by false e = tt
