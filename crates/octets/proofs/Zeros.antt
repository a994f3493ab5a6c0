-- Runs of zeros, and lists that are zero: their parts, and their number.
use Prim.Native.Nat.{ℕ, zero, suc, ◌+◌, ◌-◌, ◌≤◌}
use mathlib.Core.Path.{◌≡◌, refl, ap, sym, ◌∙◌}
use mathlib.Core.Bool.{true, ◌&&◌}
use mathlib.Core.List.{List, [], ◌∷◌, ◌++◌}
use native.Mathlib.Omega.{arith}
use lib.Dec.{eqb}
use lib.ListN.{take, drop, replicate-append-replicate}
use borrow.Author.Tests.{eqb-true}
use Rattle.octets.specs.Numbers.{number, number_from}
use Rattle.octets.specs.Parts.{part, zeros, all_zero}
use Rattle.octets.proofs.Tests.{and_assoc, both, and_left, and_right}

-- the first of zeros, and those behind them
pub zeros-append : (n m : ℕ) → zeros n ++ zeros m ≡ zeros (n + m)
unfolding zeros
zeros-append n m = replicate-append-replicate n m 0

pub take-zeros : (i n : ℕ) → i ≤ n → take i (zeros n) ≡ zeros i
unfolding zeros
take-zeros zero n h = refl
take-zeros (suc i) zero h = absurd (omega arith)
take-zeros (suc i) (suc n) h = ap (λ (l : List ℕ). 0 ∷ l) (take-zeros i n (omega arith))

pub drop-zeros : (i n : ℕ) → drop i (zeros n) ≡ zeros (n - i)
unfolding zeros
drop-zeros zero n = let e : n - 0 ≡ n = omega arith in rw e
drop-zeros (suc i) zero = let e : 0 - suc i ≡ 0 = omega arith in rw e
drop-zeros (suc i) (suc n) = let e : suc n - suc i ≡ n - i = omega arith in rw e (drop-zeros i n)

pub part-zeros : (n at w : ℕ) → at + w ≤ n → part (zeros n) at w ≡ zeros w
part-zeros n at w h = ap (take w) (drop-zeros at n) ∙ take-zeros w (n - at) (omega arith)

-- a list that is zero: its parts, and its number
zero-append : (xs ys : List ℕ) → all_zero (xs ++ ys) ≡ all_zero xs && all_zero ys
unfolding all_zero
zero-append [] ys = refl
zero-append (x ∷ xs) ys = rw (zero-append xs ys, and_assoc (eqb x 0) (all_zero xs) (all_zero ys))

pub zero-both : (xs ys : List ℕ) → all_zero (xs ++ ys) ≡ true → (all_zero xs ≡ true) × (all_zero ys ≡ true)
zero-both xs ys e = both (all_zero xs) (all_zero ys) (sym (zero-append xs ys) ∙ e)

zero-take : (n : ℕ) (xs : List ℕ) → all_zero xs ≡ true → all_zero (take n xs) ≡ true
unfolding all_zero
zero-take zero xs e = refl
zero-take (suc n) [] e = refl
zero-take (suc n) (x ∷ xs) e = rw (and_left (eqb x 0) (all_zero xs) e) (zero-take n xs (and_right (eqb x 0) (all_zero xs) e))

pub zero-drop : (n : ℕ) (xs : List ℕ) → all_zero xs ≡ true → all_zero (drop n xs) ≡ true
unfolding all_zero
zero-drop zero xs e = e
zero-drop (suc n) [] e = refl
zero-drop (suc n) (x ∷ xs) e = zero-drop n xs (and_right (eqb x 0) (all_zero xs) e)

zero_number : (xs : List ℕ) → all_zero xs ≡ true → number xs ≡ 0
unfolding all_zero number_from
zero_number [] e = refl
zero_number (x ∷ xs) e =
    let z : x ≡ 0 = eqb-true x 0 (and_left (eqb x 0) (all_zero xs) e) in
    rw z (zero_number xs (and_right (eqb x 0) (all_zero xs) e))

pub zero-part : (l : List ℕ) (at w : ℕ) → all_zero l ≡ true → number (part l at w) ≡ 0
zero-part l at w e = zero_number (part l at w) (zero-take w (drop at l) (zero-drop at l e))
