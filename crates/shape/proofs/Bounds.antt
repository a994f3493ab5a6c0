-- The positions together: what they sum to by their parts, and why a sum beyond the pass's limits is not the open amounts.
use Prim.Native.Nat.{ℕ, ◌+◌, ◌*◌, ◌<◌, ◌≤◌, ◌^◌}
use mathlib.Core.Path.{◌≡◌, ap, sym}
use mathlib.Core.Bool.{true, false}
use mathlib.Core.List.{List, [], ◌∷◌, ◌++◌}
use native.Mathlib.Omega.{arith}
use lib.ListN.{length, take, get_or}
use lib.IntN.{ℤ, pos, negsuc, ◌+ℤ◌}
use lib.Seq.{take_all}
use lib.Signed.{mag, le_z}
use mir.Syntax.{w128}
use mir.Val.{to_z, of_z}
use borrow.Author.Tests.{le-leb, lt-leb}
use Rattle.std.specs.Prelude.{Some, None}
use Rattle.std.proofs.lemmas.Int.{ints}
use Rattle.octets.specs.Lists.{all, sum}
use Rattle.octets.specs.Integers.{up, dn}
use Rattle.std.proofs.lemmas.List.{take_more}
use Rattle.octets.proofs.Integers as integers
use Rattle.octets.proofs.Integers.{mag_split, sum_split, le_yes, le_no}
use Rattle.octets.proofs.Tests.{and-false, both}
use Rattle.octets.proofs.Walk.{sum_more, sum-part}
use Rattle.account.specs.declared.Account.{Account}
use Rattle.account.specs.Position.{value}
use Rattle.account.specs.Head.{no_account}
use Rattle.account.proofs.Positions.{value_split}
use Rattle.rules.specs.Rules.{highest_cap, sameℤ}
use Rattle.shape.specs.Shape.{account_ok, total}
use Rattle.shape.specs.Scan.{most_reserved, below_of, most_below, total_in_reach}
use Rattle.shape.proofs.Facts.{account_sound, position_most}

-- how far a position lies above zero; its remainder
abbrev pub above_of : Account → ℕ
above_of a = up a.position.units

abbrev pub rest_of : Account → ℕ
rest_of a = a.position.remainder

-- the test of equality, told by the parts
module _ (z : ℤ) (n : ℕ) where
  pub same_yes : up z ≡ n + dn z → sameℤ z (pos n) ≡ true
  same_yes h = rw (le_yes z (pos n) (omega arith), le_yes (pos n) z (omega arith))

  pub same_less : up z < n + dn z → sameℤ z (pos n) ≡ false
  same_less h = rw (le_no (pos n) z (omega arith)) (and-false (le_z z (pos n)))

-- all positions by their parts
pub total_split : (xs : List Account) → up (total xs) + sum below_of xs * 10000 ≡ sum above_of xs * 10000 + sum rest_of xs + dn (total xs)
total_split [] = omega arith
total_split (a ∷ xs) = omega (arith, total_split xs, value_split a.position, sum_split (value a.position) (total xs))

-- each is at most 10^17 units
pub most_above : (xs : List Account) → all account_ok xs ≡ true → sum above_of xs * 10000 + sum rest_of xs ≤ length xs * highest_cap
most_above [] e = omega arith
most_above (a ∷ xs) e =
    let p = both (account_ok a) (all account_ok xs) e in
    omega (arith, most_above xs p.1, position_most a (account_sound a p.0))

module _ (xs : List Account) (n : ℕ) (few : length xs ≤ 32) (each : all account_ok xs ≡ true) where
  -- more is reserved than the positions can sum to
  pub too_much : most_reserved < n → sameℤ (total xs) (pos n) ≡ false
  too_much h = same_less (total xs) n (omega (arith, total_split xs, most_above xs each))

  -- more lies below zero than the others can make up for
  pub too_low : most_below < sum below_of xs → sameℤ (total xs) (pos n) ≡ false
  too_low h = same_less (total xs) n (omega (arith, total_split xs, most_above xs each))

-- one position more
total-snoc : (xs : List Account) (a : Account) → total (xs ++ (a ∷ [])) ≡ total xs +ℤ value a.position
total-snoc [] a = integers.same _ _ (omega (arith, sum_split (value a.position) (pos 0), sum_split (pos 0) (value a.position)))
total-snoc (x ∷ xs) a =
    integers.same _ _ (omega (
      arith,
      ap up (total-snoc xs a),
      ap dn (total-snoc xs a),
      sum_split (value x.position) (total (xs ++ (a ∷ []))),
      sum_split (value x.position) (total xs),
      sum_split (total xs) (value a.position),
      sum_split (value x.position +ℤ total xs) (value a.position),
    ))

pub total_more : (xs : List Account) (k : ℕ) → k < length xs →
    total (take (k + 1) xs) ≡ total (take k xs) +ℤ value (get_or xs k no_account).position
total_more xs k h = rw (take_more xs k no_account h) (total-snoc (take k xs) (get_or xs k no_account))

-- the units below zero, one position more
module _ (xs : List Account) (k below : ℕ) (s : below ≡ sum below_of (take k xs)) (h : k < length xs) where
  pub below_more : below + below_of (get_or xs k no_account) ≡ sum below_of (take (k + 1) xs)
  below_more = rw s (sym (sum_more below_of xs k no_account h))

  pub out_of_reach : most_below < below + below_of (get_or xs k no_account) → None ≡ total_in_reach xs
  unfolding total_in_reach
  out_of_reach l = rw (lt-leb (sum below_of xs) most_below (omega (arith, below_more, sum-part below_of xs (k + 1))))

pub in_reach : (xs : List Account) (k below : ℕ) (z : ℤ) → z ≡ total (take k xs) → below ≡ sum below_of (take k xs) → below ≤ most_below →
    length xs ≤ k → Some z ≡ total_in_reach xs
unfolding total_in_reach
in_reach xs k below z e s low h =
    let whole : take k xs ≡ xs = take_all k xs h in
    let l : sum below_of xs ≤ most_below = rw (← whole, ← s) low in
    rw (e, whole, le-leb (sum below_of xs) most_below l)

-- a position is added within 128 bits
module _ (s v : ℤ) (k : ℕ) (few : k ≤ 32) (hs : mag s ≤ k * 2 ^ 79) (hv : mag v < 2 ^ 78) where
  pub sum_is : to_z w128 (of_z w128 (s +ℤ to_z w128 (of_z w128 v))) ≡ s +ℤ v
  sum_is = omega (arith, ints)

  pub sum_small : mag (s +ℤ v) ≤ (k + 1) * 2 ^ 79
  sum_small = go (s +ℤ v) (sum_split s v)
    where
      go : (z : ℤ) → up z + (dn s + dn v) ≡ up s + up v + dn z → mag z ≤ (k + 1) * 2 ^ 79
      go (pos n) e = omega (arith, mag_split s (k * 2 ^ 79 + 1) (omega arith), mag_split v (2 ^ 78) hv)
      go (negsuc n) e = omega (arith, mag_split s (k * 2 ^ 79 + 1) (omega arith), mag_split v (2 ^ 78) hv)
