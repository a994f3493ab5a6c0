-- Digits in so many places: the contracts of the writer's inner functions. No public promise cites these.
use Rattle.std.specs.Prelude.{ℕ, ◌/◌, ◌%◌, ◌<◌, ◌≡◌, List, [], ◌∷◌, cond, eqb, length, get_or}
use Prim.Native.Char.{code}
use Rattle.octets.specs.Decimal.{in_digits}
use Rattle.amount.specs.Amount.{digit}

-- the point and k digits after it, or nothing
unfoldable pub pointed : ℕ → ℕ → List ℕ
pointed k n = cond (eqb k 0) [] (code "." ∷ in_digits k n)

-- the first and the second digit of each number below 100
pub record Tables (tens ones : List ℕ) : Type 0 where
  pub tens_long : length tens ≡ 100
  pub ones_long : length ones ≡ 100
  pub ten : (q : ℕ) → q < 100 → get_or tens q 0 ≡ digit (q / 10)
  pub one : (q : ℕ) → q < 100 → get_or ones q 0 ≡ digit (q % 10)
