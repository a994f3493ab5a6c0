-- Sums and differences of signed numbers as the code computes them, in 64 bits.
use Rattle.std.proofs.Common.{◌≡◌, ℕ, ◌<◌, ◌^◌, ℤ, pos, ◌+ℤ◌, ◌-ℤ◌, w64, to_z, of_z, arith}
use Rattle.std.proofs.lemmas.Int.{ints}
use lib.Signed.{mag}

-- what the code computes of an i64 x and a u64 n that it has cast to i64: both are read as the numbers that they are, and half the range
-- for each leaves room for the result
module _ (x : ℤ) (n : ℕ) (hx : mag x < 2 ^ 62) (hn : n < 2 ^ 62) where
  pub sum_is : to_z w64 (of_z w64 (to_z w64 (of_z w64 x) +ℤ to_z w64 (of_z w64 (to_z w64 n)))) ≡ x +ℤ pos n
  sum_is = omega (arith, ints)

  pub difference_is : to_z w64 (of_z w64 (to_z w64 (of_z w64 x) -ℤ to_z w64 (of_z w64 (to_z w64 n)))) ≡ x -ℤ pos n
  difference_is = omega (arith, ints)
