-- Counting the letters that a text begins with, one a turn and four a turn.
use mathlib.Core.Path.{◌≡◌, refl, sym, ap, ◌∙◌}
use mathlib.Core.Bool.{true, cond}
use mathlib.Core.List.{List, [], ◌∷◌}
use Prim.Native.Nat.{ℕ, zero, suc, min, ◌+◌, ◌-◌, ◌≤◌, ◌<◌}
use native.Mathlib.Decide.{dec_le}
use native.Mathlib.Omega.{arith}
use native.Mathlib.Numerals.{add-one}
use lib.ListN.{length, get_or, take, drop}
use lib.Seq.{drop-cons, take_all}
use borrow.Author.Tests.{lt-ltb, le-ltb}
use Rattle.base64url.specs.Letters.{value_of, is_letter}
use Rattle.base64url.specs.Scan.{four_letters, letters_first, Passed}
use Rattle.base64url.proofs.Groups.{letters_of_four}
use Rattle.base64url.proofs.Turns.{four_from, next_four}

-- no letter lies past the end of the text, nor is one counted past the limit
count_taken : (n : ℕ) (s : List ℕ) → letters_first (length (take n s)) (take n s) ≡ letters_first n s
unfolding letters_first
count_taken zero s = refl
count_taken (suc n) [] = refl
count_taken (suc n) (c ∷ cs) = ap (λ (k : ℕ). cond (is_letter c) (suc k) 0) (count_taken n cs)

pub count_to : (n m : ℕ) (s : List ℕ) → m ≡ min (length s) n → letters_first (length (take m s)) (take m s) ≡ letters_first n s
count_to n m s e = elim (dec_le (length s) n) [
  | yes h ↦
      let f : take m s ≡ take n s = take_all m s (omega arith) ∙ sym (take_all n s h) in
      ap (λ (t : List ℕ). letters_first (length t) t) f ∙ count_taken n s
  | no h ↦ let f : m ≡ n = omega arith in rw f (count_taken n s)
]

module _ (n : ℕ) (s : List ℕ) (i whole : ℕ) (e : Passed n s whole i) where
  module _ (h : i < length s) (k : i < n) where
    cut : letters_first (n - i) (drop i s) ≡ cond (is_letter (get_or s i 0)) (suc (letters_first (n - (i + 1)) (drop (i + 1) s))) 0
    unfolding letters_first
    cut =
        let z : n - i ≡ suc (n - (i + 1)) = omega arith in
        ap (λ (j : ℕ). letters_first j (drop i s)) z ∙ ap (letters_first (suc (n - (i + 1)))) (drop-cons s i 0 h)
        ∙ ap (λ (j : ℕ). cond (is_letter (get_or s i 0)) (suc (letters_first (n - (i + 1)) (drop j s))) 0) (sym (add-one i))

    pub count-goes : value_of (get_or s i 0) < 64 → Passed n s whole (i + 1)
    count-goes v = let f = rw (lt-ltb (value_of (get_or s i 0)) 64 v) at cut in omega (arith, e, f)

    pub count-stops : 64 ≤ value_of (get_or s i 0) → i ≡ whole
    count-stops v = let f = rw (le-ltb (value_of (get_or s i 0)) 64 v) at cut in omega (arith, e, f)

  pub count_four : i + 4 ≤ length s → i + 4 ≤ n →
      four_letters (four_from s i) ≡ true → Passed n s whole (i + 4)
  unfolding letters_first
  count_four h k t =
      let m = n - (i + 4) in
      let z : n - i ≡ suc (suc (suc (suc m))) = omega arith in
      let a = letters_of_four (four_from s i) t in
      let f : letters_first (n - i) (drop i s) ≡ suc (suc (suc (suc (letters_first m (drop (i + 4) s))))) =
      ap (λ (j : ℕ). letters_first j (drop i s)) z ∙ ap (letters_first (suc (suc (suc (suc m))))) (next_four s i h)
      ∙ rw (a.0, a.1, a.2, a.3) in
      omega (arith, e, f)

  pub count_ends : n ≤ i → i ≡ whole
  unfolding letters_first
  count_ends h = let z : n - i ≡ 0 = omega arith in omega (arith, e, ap (λ (j : ℕ). letters_first j (drop i s)) z)
