-- Bytes and values of 6 bits: what the groups of four make, both ways.
use mathlib.Core.Path.{◌≡◌, refl, ap}
use mathlib.Core.Bool.{true, ◌&&◌}
use mathlib.Core.List.{List, [], ◌∷◌, ◌++◌}
use Prim.Native.Nat.{ℕ, zero, suc, ◌+◌, ◌*◌, ◌/◌, ◌<◌}
use native.Mathlib.Omega.{arith}
use lib.ListN.{length, get_or}
use Rattle.octets.specs.Bytes.{Bytes}
use Rattle.base64url.specs.Letters.{is_letter}
use Rattle.base64url.specs.Scan.{four_letters}
use Rattle.base64url.specs.Condition.{three_bytes, bytes_of, values_of}
use Rattle.base64url.proofs.Run.{and-true}

-- every element below 64
abbrev pub Values : List ℕ → Type 0
Values [] = Unit {0}
Values (v ∷ vs) = (v < 64) × Values vs

two_lists : {a b : ℕ} {x y : List ℕ} → a ≡ b → x ≡ y → a ∷ x ≡ b ∷ y
two_lists p q = cc

pub values_small : (b : List ℕ) → Bytes b → Values (values_of b)
unfolding values_of
values_small (x ∷ y ∷ z ∷ more) h =
    (omega arith, (omega arith, (omega arith, (omega arith, values_small more h.1.1.1))))
values_small (x ∷ y ∷ []) h = (omega arith, (omega arith, (omega arith, tt)))
values_small (x ∷ []) h = (omega arith, (omega arith, tt))
values_small [] h = tt

pub bytes_small : (v : List ℕ) → Values v → Bytes (bytes_of v)
unfolding bytes_of
bytes_small (a ∷ b ∷ c ∷ d ∷ more) h = (omega arith, (omega arith, (omega arith, bytes_small more h.1.1.1.1)))
bytes_small (a ∷ b ∷ c ∷ []) h = (omega arith, (omega arith, tt))
bytes_small (a ∷ b ∷ []) h = (omega arith, tt)
bytes_small (a ∷ []) h = tt
bytes_small [] h = tt

-- the values of bytes are those bytes again
pub back : (b : List ℕ) → Bytes b → bytes_of (values_of b) ≡ b
unfolding bytes_of values_of
back (x ∷ y ∷ z ∷ more) h = two_lists (omega arith) (two_lists (omega arith) (two_lists (omega arith) (back more h.1.1.1)))
back (x ∷ y ∷ []) h = two_lists (omega arith) (two_lists (omega arith) refl)
back (x ∷ []) h = two_lists (omega arith) refl
back [] h = refl

-- 4 n + 3 values are 3 n + 2 bytes, and 3 n + 2 bytes are 4 n + 3 values
pub length-bytes : (n : ℕ) (v : List ℕ) → length v ≡ n * 4 + 3 → length (bytes_of v) ≡ n * 3 + 2
unfolding bytes_of
length-bytes (suc n) (a ∷ b ∷ c ∷ d ∷ more) e = omega (arith, length-bytes n more (omega arith))
length-bytes zero (a ∷ b ∷ c ∷ d ∷ more) e = absurd (omega arith)
length-bytes n (a ∷ b ∷ c ∷ []) e = omega arith
length-bytes n (a ∷ b ∷ []) e = absurd (omega arith)
length-bytes n (a ∷ []) e = absurd (omega arith)
length-bytes n [] e = absurd (omega arith)

pub length-values : (n : ℕ) (b : List ℕ) → length b ≡ n * 3 + 2 → length (values_of b) ≡ n * 4 + 3
unfolding values_of
length-values (suc n) (x ∷ y ∷ z ∷ more) e = omega (arith, length-values n more (omega arith))
length-values zero (x ∷ y ∷ z ∷ more) e = absurd (omega arith)
length-values n (x ∷ y ∷ []) e = omega arith
length-values n (x ∷ []) e = absurd (omega arith)
length-values n [] e = absurd (omega arith)

-- 4 n + 2 values w and a last one v: its two low bits are dropped by the reader ..
pub dropped : (n : ℕ) (w : List ℕ) (u v : ℕ) → length w ≡ n * 4 + 2 → u / 4 ≡ v / 4 → bytes_of (w ++ (u ∷ [])) ≡ bytes_of (w ++ (v ∷ []))
unfolding bytes_of
dropped (suc n) (a ∷ b ∷ c ∷ d ∷ more) u v l e = ap (λ (z : List ℕ). three_bytes a b c d ++ z) (dropped n more u v (omega arith) e)
dropped zero (a ∷ b ∷ c ∷ d ∷ more) u v l e = absurd (omega arith)
dropped n (a ∷ b ∷ c ∷ []) u v l e = absurd (omega arith)
dropped n (a ∷ b ∷ []) u v l e = rw e
dropped n (a ∷ []) u v l e = absurd (omega arith)
dropped n [] u v l e = absurd (omega arith)

-- .. and set to zero by the writer
pub cleared : (n : ℕ) (w : List ℕ) (v : ℕ) → length w ≡ n * 4 + 2 → Values w → v < 64 →
    values_of (bytes_of (w ++ (v ∷ []))) ≡ w ++ (v / 4 * 4 ∷ [])
unfolding bytes_of values_of
cleared (suc n) (a ∷ b ∷ c ∷ d ∷ more) v l h k =
    two_lists (omega arith)
    (two_lists (omega arith) (two_lists (omega arith) (two_lists (omega arith) (cleared n more v (omega arith) h.1.1.1.1 k))))
cleared zero (a ∷ b ∷ c ∷ d ∷ more) v l h k = absurd (omega arith)
cleared n (a ∷ b ∷ c ∷ []) v l h k = absurd (omega arith)
cleared n (a ∷ b ∷ []) v l h k = two_lists (omega arith) (two_lists (omega arith) (two_lists (omega arith) refl))
cleared n (a ∷ []) v l h k = absurd (omega arith)
cleared n [] v l h k = absurd (omega arith)

-- four letters, one by one
pub letters_of_four : (f : List ℕ) → four_letters f ≡ true → (is_letter (get_or f 0 0) ≡ true) × (is_letter (get_or f 1 0) ≡ true)
    × (is_letter (get_or f 2 0) ≡ true) × (is_letter (get_or f 3 0) ≡ true)
letters_of_four f e =
    let p = is_letter (get_or f 0 0) in
    let q = is_letter (get_or f 1 0) in
    let r = is_letter (get_or f 2 0) in
    let x = and-true (p && q && r) (is_letter (get_or f 3 0)) e in
    let y = and-true (p && q) r x.0 in
    let z = and-true p q y.0 in
    (z.0, z.1, y.1, x.1)
