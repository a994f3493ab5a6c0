-- A position: what it is worth, and how it is held (01, "The two books": "A position may be negative: whole units rounded down, and a
-- remainder 0 to 9,999. So 5.5 taken from 0 is held as -6 and 5,000.").
use Rattle.std.specs.Prelude.{ℕ, ◌+◌, ◌-◌, ◌*◌, ◌/◌, ◌%◌, ◌^◌, ◌<◌, Bool, ℤ, pos, negsuc, ◌+ℤ◌, ◌-ℤ◌, ◌*ℤ◌}
use Rattle.std.specs.Int.Signed.{le_z, mag}
use Rattle.amount.specs.declared.Amount.{Amount}
use Rattle.account.specs.declared.Position.{Position}

-- in ten-thousandths
abbrev pub worth : Amount → ℕ
worth a = a.units * 10000 + a.remainder

unfoldable pub value : Position → ℤ
value p = p.units *ℤ pos 10000 +ℤ pos p.remainder

-- the position that is worth so much: below 0 the units are rounded down, away from 0
unfoldable pub held : ℤ → Position
held (pos n) = record { units = pos (n / 10000); remainder = n % 10000 }
held (negsuc n) = record { units = negsuc (n / 10000); remainder = 9999 - n % 10000 }

-- "the payer's position rises by the amount", "falls by the amount"
abbrev pub raised_by : Position → Amount → Position
raised_by p a = held (value p +ℤ pos (worth a))

abbrev pub lowered_by : Position → Amount → Position
lowered_by p a = held (value p -ℤ pos (worth a))

abbrev pub within : Position → Amount → Bool
within p a = le_z (value p) (pos (worth a))

-- a position that an amount can be added to and taken from within 64 bits, and such an amount
pub record Room (p : Position) : Type 0 where
  pub units : mag p.units < 2 ^ 62
  pub remainder : p.remainder < 10000

pub record InRange (a : Amount) : Type 0 where
  pub units : a.units < 1000000000000000000
  pub remainder : a.remainder < 10000
