-- The head as bytes, field by field: the tables of docs/HEAD.md.
use Rattle.std.specs.Prelude.{ℕ, zero, suc, ◌+◌, ◌*◌, ◌-◌, Bool, true, false, cond, ◌&&◌, List, [], ◌∷◌, ◌++◌, eqb, leb, length, get_or}
use Rattle.std.specs.Int.{w64}
use Rattle.std.proofs.Common.{to_z, of_z}
use Rattle.octets.specs.Build.{build}
use Rattle.octets.specs.Numbers.{number, big_endian}
use Rattle.octets.specs.Parts.{part, zeros, all_zero}
use Rattle.account.specs.declared.Account.{Account}
use Rattle.account.specs.declared.Head.{Head}

-- "One account place": the name, its zeros after it, cap and position in units, their remainders, the name's length, zeros
unfoldable pub account_bytes : Account → List ℕ
account_bytes a =
    a.name
    ++ big_endian 8 a.cap.units
    ++ big_endian 8 (of_z w64 a.position.units)
    ++ big_endian 2 a.cap.remainder
    ++ big_endian 2 a.position.remainder
    ++ (a.length ∷ zeros 11)

unfoldable pub accounts_bytes : List Account → List ℕ
accounts_bytes [] = []
accounts_bytes (a ∷ rest) = account_bytes a ++ accounts_bytes rest

-- book time, currency, accounts, places of the open and the finished book, finished records, zeros, and the account places
unfoldable pub front_bytes : Head → List ℕ
front_bytes h =
    big_endian 8 (of_z w64 h.time)
    ++ h.currency
    ++ (h.count ∷ [])
    ++ big_endian 2 h.slots
    ++ big_endian 2 h.places
    ++ big_endian 2 h.finished
    ++ zeros 14

unfoldable pub head_bytes : Head → List ℕ
head_bytes h = front_bytes h ++ accounts_bytes h.accounts

-- the number of w bytes from a place on
abbrev pub number_at : List ℕ → ℕ → ℕ → ℕ
number_at b at w = number (part b at w)

-- the account of the 64 bytes from a place on
unfoldable pub account_from : List ℕ → ℕ → Account
account_from b at = record {
  name = part b at 32;
  length = get_or b (at + 52) 0;
  cap = record { units = number_at b (at + 32) 8; remainder = number_at b (at + 48) 2 };
  position = record { units = to_z w64 (number_at b (at + 40) 8); remainder = number_at b (at + 50) 2 };
}

abbrev pub place_at : ℕ → ℕ
place_at k = 32 + k * 64

unfoldable pub head_from : List ℕ → Head
head_from b = record {
  accounts = build 32 (λ k. account_from b (place_at k));
  count = get_or b 11 0;
  currency = part b 8 3;
  time = to_z w64 (number_at b 0 8);
  slots = number_at b 12 2;
  places = number_at b 14 2;
  finished = number_at b 16 2;
}

-- "the bytes 53 to 63 of each account place"; "the bytes of a name's 32 that lie past its length are zero"; "an account place past the
-- number of accounts is zero"
unfoldable pub place_formed : List ℕ → ℕ → ℕ → Bool
place_formed b count k =
    cond (leb count k) (all_zero (part b (place_at k) 64))
    (all_zero (part b (place_at k + get_or b (place_at k + 52) 0) (32 - get_or b (place_at k + 52) 0)) && all_zero (part b (place_at k + 53) 11))

-- the first n account places are so
unfoldable pub places_formed : List ℕ → ℕ → ℕ → Bool
places_formed b count zero = true
places_formed b count (suc n) = places_formed b count n && place_formed b count n

-- "Of the form is a slice of 2,080 bytes in which .. the bytes 18 to 31 are zero"
unfoldable pub is_formed : List ℕ → Bool
is_formed b = cond (eqb (length b) 2080) (all_zero (part b 18 14) && places_formed b (get_or b 11 0) 32) false
