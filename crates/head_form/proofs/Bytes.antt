-- The library's numbers in bytes are those of the form, at the two widths that a head has.
use Rattle.std.proofs.Common.{ℕ, zero, suc, ◌≡◌, ◌+◌, ◌*◌, ◌/◌, ◌%◌, ◌^◌, ◌≤◌, List, [], ◌∷◌, refl, ap, ◌∙◌, length, arith}
use Rattle.std.proofs.Math.Nat.{div-one}
use Rattle.std.specs.Int.{w16, w64, byte_at, bytes_high_first, from_be_bytes}
use Rattle.octets.specs.Numbers.{number, number_from, big_endian}
use Rattle.octets.specs.Parts.{part}
use Rattle.octets.proofs.Parts.{length_part}
use Rattle.octets.proofs.Round.{bits-bytes}
use Rattle.head_form.specs.Form.{number_at}

pub number_two : (bs : List ℕ) → length bs ≡ 2 → from_be_bytes w16 bs ≡ number bs
unfolding number_from
number_two [] h = absurd (omega arith)
number_two (a ∷ []) h = absurd (omega arith)
number_two (a ∷ b ∷ []) h = omega arith
number_two (a ∷ b ∷ c ∷ s) h = absurd (omega arith)

pub number_eight : (bs : List ℕ) → length bs ≡ 8 → from_be_bytes w64 bs ≡ number bs
unfolding number_from
number_eight [] z = absurd (omega arith)
number_eight (a ∷ []) z = absurd (omega arith)
number_eight (a ∷ b ∷ []) z = absurd (omega arith)
number_eight (a ∷ b ∷ c ∷ []) z = absurd (omega arith)
number_eight (a ∷ b ∷ c ∷ d ∷ []) z = absurd (omega arith)
number_eight (a ∷ b ∷ c ∷ d ∷ e ∷ []) z = absurd (omega arith)
number_eight (a ∷ b ∷ c ∷ d ∷ e ∷ f ∷ []) z = absurd (omega arith)
number_eight (a ∷ b ∷ c ∷ d ∷ e ∷ f ∷ g ∷ []) z = absurd (omega arith)
number_eight (a ∷ b ∷ c ∷ d ∷ e ∷ f ∷ g ∷ h ∷ []) z = omega arith
number_eight (a ∷ b ∷ c ∷ d ∷ e ∷ f ∷ g ∷ h ∷ i ∷ s) z = absurd (omega arith)

-- a number that is read at a place
module _ (b : List ℕ) (at : ℕ) {n : ℕ} {bytes : List ℕ} where
  pub read_two : at + 2 ≤ length b → bytes ≡ part b at 2 → n ≡ from_be_bytes w16 bytes → n ≡ number_at b at 2
  read_two h e f = f ∙ number_two bytes (ap length e ∙ length_part b at 2 h) ∙ ap number e

  pub read_eight : at + 8 ≤ length b → bytes ≡ part b at 8 → n ≡ from_be_bytes w64 bytes → n ≡ number_at b at 8
  read_eight h e f = f ∙ number_eight bytes (ap length e ∙ length_part b at 8 h) ∙ ap number e

byte : (k n : ℕ) → byte_at k n ≡ n / 2 ^ (8 * k) % 2 ^ 8
byte zero n = rw div-one
byte (suc k) n = ap (λ (d : ℕ). n / d % 256) (bits-bytes (suc k))

-- `to_be_bytes`, at any width
pub high_first : (k n : ℕ) → bytes_high_first k n ≡ big_endian k n
unfolding big_endian
high_first zero n = refl
high_first (suc k) n = rw (byte k n, high_first k n)
