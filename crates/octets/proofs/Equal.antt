-- Laws of `same` and `all_zero`: what `==` of two slices, a loop that compares byte after byte, and the or of all bytes come to.
use Prim.Native.Nat.{ℕ, zero, suc, ◌+◌, ◌<◌, ◌≤◌}
use mathlib.Core.Path.{◌≡◌, refl, sym, ap₂, ◌∙◌}
use mathlib.Core.Bool.{Bool, true, false, false≢true, ◌&&◌}
use mathlib.Core.List.{List, [], ◌∷◌}
use native.Mathlib.Omega.{arith}
use native.Mathlib.Numerals.{add-one}
use lib.Bits.{bit_or, or_add_and, and_le_l, and_le_r}
use lib.Dec.{eqb}
use lib.ListN.{length, get_or, drop, drop_of_length-le}
use lib.Seq.{drop-cons}
use borrow.Author.Tests.{eq-eqb, ne_eqb, eqb-true, eqb-false}
use Rattle.std.specs.List.{fold}
use Rattle.std.specs.Cmp.Lexicographic.{pointwise, bytes_decides, unequal}
use Rattle.octets.specs.Parts.{same, zeros, all_zero}
use Rattle.octets.proofs.Tests.{and-true, and_assoc}

-- what `==` of two slices answers, of which the kit's library has the laws
pub same_by_pairs : (xs ys : List ℕ) → pointwise eqb xs ys ≡ same xs ys
unfolding same
same_by_pairs [] [] = refl
same_by_pairs [] (y ∷ ys) = refl
same_by_pairs (x ∷ xs) [] = refl
same_by_pairs (x ∷ xs) (y ∷ ys) = rw (same_by_pairs xs ys)

pub other_length_lem : (xs ys : List ℕ) → (length xs ≡ length ys → ⊥) → same xs ys ≡ false
other_length_lem xs ys h = sym (same_by_pairs xs ys) ∙ unequal eqb xs ys h

-- the bytes at i, and the rest
module _ (xs ys : List ℕ) (i : ℕ) (hx : i < length xs) (hy : i < length ys) where
  same_step : same (drop i xs) (drop i ys) ≡ eqb (get_or xs i 0) (get_or ys i 0) && same (drop (i + 1) xs) (drop (i + 1) ys)
  unfolding same
  same_step = rw (add-one, drop-cons xs i 0 hx, drop-cons ys i 0 hy)

  pub same_differ : (get_or xs i 0 ≡ get_or ys i 0 → ⊥) → same (drop i xs) (drop i ys) ≡ false
  same_differ h = same_step ∙ rw (ne_eqb _ _ h)

  pub same_agree : get_or xs i 0 ≡ get_or ys i 0 → same (drop i xs) (drop i ys) ≡ same (drop (i + 1) xs) (drop (i + 1) ys)
  same_agree h = same_step ∙ rw (eq-eqb _ _ h)

pub same-done : (xs ys : List ℕ) (i : ℕ) → length xs ≤ i → length ys ≤ i → same (drop i xs) (drop i ys) ≡ true
unfolding same
same-done xs ys i hx hy = rw (drop_of_length-le xs hx, drop_of_length-le ys hy)

-- the same lists are equal, and equal lists are the same
pub same_refl : (xs : List ℕ) → same xs xs ≡ true
same_refl xs = sym (same_by_pairs xs xs) ∙ (bytes_decides xs xs).1 refl

pub same_equal : (xs ys : List ℕ) → same xs ys ≡ true → xs ≡ ys
same_equal xs ys h = (bytes_decides xs ys).0 (same_by_pairs xs ys ∙ h)

-- bytes taken together by or are zero where each is
or_by : (p q : Bool) (a b : ℕ) → eqb a 0 ≡ p → eqb b 0 ≡ q → eqb (bit_or a b) 0 ≡ p && q
or_by true true a b e f = eq-eqb (bit_or a b) 0 (omega (arith, eqb-true a 0 e, eqb-true b 0 f, or_add_and a b))
or_by true false a b e f =
    ne_eqb (bit_or a b) 0 (λ z. eqb-false b 0 f (omega (arith, z, or_add_and a b, and_le_l a b, and_le_r a b)))
or_by false q a b e f = ne_eqb (bit_or a b) 0 (λ z. eqb-false a 0 e (omega (arith, z, or_add_and a b, and_le_l a b, and_le_r a b)))

zero-fold : (xs : List ℕ) (together : ℕ) → eqb (fold bit_or together xs) 0 ≡ eqb together 0 && all_zero xs
unfolding all_zero
zero-fold [] together = sym (and-true (eqb together 0))
zero-fold (x ∷ xs) together =
    zero-fold xs (bit_or together x) ∙ rw (or_by (eqb together 0) (eqb x 0) together x refl refl, and_assoc)

pub zero_by_or : (xs : List ℕ) → eqb (fold bit_or 0 xs) 0 ≡ all_zero xs
zero_by_or xs = zero-fold xs 0

-- a run of zeros is zero, and a zero list is a run of zeros
pub zeros-zero : (n : ℕ) → all_zero (zeros n) ≡ true
unfolding all_zero zeros
zeros-zero zero = refl
zeros-zero (suc n) = zeros-zero n

pub zero-zeros : (xs : List ℕ) → all_zero xs ≡ true → xs ≡ zeros (length xs)
unfolding all_zero zeros
zero-zeros [] h = refl
zero-zeros (x ∷ xs) h = go (eqb x 0) refl h (zero-zeros xs)
  where
    go : (t : Bool) → eqb x 0 ≡ t → t && all_zero xs ≡ true → (all_zero xs ≡ true → xs ≡ zeros (length xs)) → x ∷ xs ≡ 0 ∷ zeros (length xs)
    go true e g more = ap₂ (λ (y : ℕ) (ys : List ℕ). y ∷ ys) (eqb-true x 0 e) (more g)
    go false e g more = absurd (false≢true g)
