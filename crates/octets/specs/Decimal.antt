-- Numbers written in decimal digits.
use Rattle.std.specs.Prelude.{ℕ, zero, suc, ◌+◌, ◌-◌, ◌*◌, ◌/◌, ◌%◌, List, [], ◌∷◌, ◌++◌}
use Prim.Native.Char.{code}

-- the number that these digits make after the number n
abbrev pub decimal_from : ℕ → List ℕ → ℕ
decimal_from n [] = n
decimal_from n (c ∷ cs) = decimal_from (n * 10 + (c - code "0")) cs

abbrev pub decimal : List ℕ → ℕ
decimal s = decimal_from 0 s

-- the last w digits of a number, zeros in front with them
abbrev pub in_digits : ℕ → ℕ → List ℕ
in_digits zero x = []
in_digits (suc w) x = in_digits w (x / 10) ++ ((code "0" + x % 10) ∷ [])
