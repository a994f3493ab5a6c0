-- Ch as the code computes it: where x has a bit, y's, else z's, by one operation less than the standard's form.
use Rattle.std.proofs.Common.{◌≡◌, ℕ, zero, suc, ◌-◌, ◌*◌, ◌/◌, ◌%◌, ◌^◌, ◌<◌, refl, pow-suc, arith}
use Rattle.sha256.specs.Sha256.{Ch}
use lib.Bits.{bit_and, bit_xor, and_zero_l, and_shr, xor_shr, and_mod, xor_mod}

bit_cases : (P : ℕ → Type 0) → P 0 → P 1 → (n : ℕ) → n < 2 → P n
bit_cases P p q zero h = p
bit_cases P p q (suc zero) h = q
bit_cases P p q (suc (suc n)) h = absurd (omega arith)

abbrev Merged : ℕ → ℕ → ℕ → ℕ → Type 0
Merged ones x y z = bit_xor z (bit_and x (bit_xor y z)) ≡ bit_xor (bit_and x y) (bit_and (ones - x) z)

merged_bit : (x y z : ℕ) → x < 2 → y < 2 → z < 2 → Merged 1 x y z
merged_bit x y z h k l =
    bit_cases (λ a. Merged 1 a y z) (bit_cases (λ b. Merged 1 0 b z) (last 0 0 refl refl) (last 0 1 refl refl) y k)
    (bit_cases (λ b. Merged 1 1 b z) (last 1 0 refl refl) (last 1 1 refl refl) y k) x h
  where
    last : (a b : ℕ) → Merged 1 a b 0 → Merged 1 a b 1 → Merged 1 a b z
    last a b p q = bit_cases (λ c. Merged 1 a b c) p q z l

halves : (a b : ℕ) → a / 2 ^ 1 ≡ b / 2 ^ 1 → a % 2 ^ 1 ≡ b % 2 ^ 1 → a ≡ b
halves a b e f = omega arith

merged : (k x y z : ℕ) → x < 2 ^ k → z < 2 ^ k → Merged (2 ^ k - 1) x y z
merged zero x y z h l =
    let a : x ≡ 0 = omega arith in
    let b : z ≡ 0 = omega arith in
    rw (a, b) (simp and_zero_l)
merged (suc k) x y z h l =
    let p : 2 ^ suc k ≡ 2 ^ k * 2 = pow-suc 2 k in
    let a : (2 ^ suc k - 1 - x) / 2 ^ 1 ≡ 2 ^ k - 1 - x / 2 ^ 1 = omega arith in
    let b : (2 ^ suc k - 1 - x) % 2 ^ 1 ≡ 1 - x % 2 ^ 1 = omega arith in
    halves _ _
    (simp (xor_shr, and_shr, a) (merged k (x / 2 ^ 1) (y / 2 ^ 1) (z / 2 ^ 1) (omega arith) (omega arith)))
    (simp (xor_mod, and_mod, b) (merged_bit (x % 2 ^ 1) (y % 2 ^ 1) (z % 2 ^ 1) (omega arith) (omega arith) (omega arith)))

-- the code's form is the standard's
pub chosen : (x y z : ℕ) → x < 2 ^ 32 → z < 2 ^ 32 → bit_xor z (bit_and x (bit_xor y z)) ≡ Ch x y z
chosen x y z h l = merged 32 x y z h l
