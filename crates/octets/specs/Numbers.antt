-- Numbers held in bytes (01, "The two books": "Numbers are big-endian").
use Rattle.std.specs.Prelude.{ℕ, zero, suc, ◌+◌, ◌*◌, ◌/◌, ◌%◌, ◌^◌, List, [], ◌∷◌}

-- the number that these bytes make after the number n
unfoldable pub number_from : ℕ → List ℕ → ℕ
number_from n [] = n
number_from n (x ∷ xs) = number_from (n * 256 + x) xs

abbrev pub number : List ℕ → ℕ
number xs = number_from 0 xs

-- the last w bytes of a number, the highest first
unfoldable pub big_endian : ℕ → ℕ → List ℕ
big_endian zero x = []
big_endian (suc w) x = (x / 2 ^ (8 * w) % 2 ^ 8) ∷ big_endian w x
