-- Hexadecimal digits: the code's way to their value, and that value and digit are inverse. Each by one computed test.
use mathlib.Core.Path.{◌≡◌}
use mathlib.Core.Bool.{Bool}
use Prim.Native.Nat.{ℕ, ◌<◌}
use lib.Dec.{T, ltb, eqb, eqb→eq, ltb→lt}
use Rattle.octets.proofs.Computed.{both, both_left, both_right, implies, implied, below, below_at}
use Rattle.uuid_text.specs.Id.{is_hex, hex_value, hex_char}
use Rattle.uuid_text.specs.Row.{digit_of}

-- a digit c: the code's value of it, that value's digit, its bound
abbrev digit_rule : ℕ → Bool
digit_rule c = both (eqb (digit_of c) (hex_value c)) (both (eqb (hex_char (hex_value c)) c) (ltb (hex_value c) 16))

digits_tested : T (below 256 (λ c. implies (is_hex c) (digit_rule c)))
digits_tested = tt

module _ (c : ℕ) (b : c < 256) (h : T (is_hex c)) where
  tested : T (digit_rule c)
  tested = implied (is_hex c) (digit_rule c) (below_at 256 (λ x. implies (is_hex x) (digit_rule x)) digits_tested c b) h

  rest : T (both (eqb (hex_char (hex_value c)) c) (ltb (hex_value c) 16))
  rest = both_right (eqb (digit_of c) (hex_value c)) _ tested

  pub value-is : digit_of c ≡ hex_value c
  value-is = eqb→eq (digit_of c) (hex_value c) (both_left (eqb (digit_of c) (hex_value c)) _ tested)

  pub char-value : hex_char (hex_value c) ≡ c
  char-value = eqb→eq (hex_char (hex_value c)) c (both_left (eqb (hex_char (hex_value c)) c) (ltb (hex_value c) 16) rest)

  pub value_small : hex_value c < 16
  value_small = ltb→lt (hex_value c) 16 (both_right (eqb (hex_char (hex_value c)) c) (ltb (hex_value c) 16) rest)

-- a value below 16 is the value of its digit
chars_tested : T (below 16 (λ n. eqb (hex_value (hex_char n)) n))
chars_tested = tt

pub value-char : (n : ℕ) → n < 16 → hex_value (hex_char n) ≡ n
value-char n h = eqb→eq (hex_value (hex_char n)) n (below_at 16 (λ i. eqb (hex_value (hex_char i)) i) chars_tested n h)
