-- The answer of an exported call in one number, and the code of a number (01, "Numbers given back": "Each call answers a number, the API's
-- error code, and a mark").
use Rattle.std.specs.Prelude.{ℕ, ◌+◌, ◌*◌, ◌/◌, ◌%◌, List, [], ◌∷◌, map, get_or}
use Rattle.rules.specs.declared.Answer.{Answer}
use Rattle.rules.specs.declared.Answer.TheVariants.{Done, NotInForm, NoPayer, NoPayee, PayerIsPayee, OtherCurrency, OtherContent}
use Rattle.rules.specs.declared.Answer.TheVariants.{Expired, OpenBookFull, NoPlaceLeft, CapPassed, UnknownId, NotThePayee}
use Rattle.rules.specs.declared.Answer.TheVariants.{EndedAnotherWay, NoMatch, ClockGoesBack, ListTooShort, NameHeld, AccountsFull}
use Rattle.rules.specs.declared.Answer.TheVariants.{CapTooHigh, BadLengths, OutOfShape, OutsideYears, NoRoom, Resend}
use Rattle.rules.specs.Answers.{number, code}

-- number in bits 0 to 15, code in bits 16 to 31, mark in bits 32 to 63
abbrev pub word : Answer → ℕ → ℕ
word a mark = number a + code a * 65536 + mark * 4294967296

-- what the gateway reads out of it
abbrev pub number_in : ℕ → ℕ
number_in w = w % 65536

abbrev pub code_in : ℕ → ℕ
code_in w = w / 65536 % 65536

abbrev pub mark_in : ℕ → ℕ
mark_in w = w / 4294967296

-- every answer, in the order of the numbers
abbrev pub answers : List Answer
answers =
    Done ∷ NotInForm ∷ NoPayer ∷ NoPayee ∷ PayerIsPayee ∷ OtherCurrency ∷ OtherContent ∷ Expired ∷ OpenBookFull ∷ NoPlaceLeft
    ∷ CapPassed ∷ UnknownId ∷ NotThePayee ∷ EndedAnotherWay ∷ NoMatch ∷ ClockGoesBack ∷ ListTooShort ∷ NameHeld ∷ AccountsFull
    ∷ CapTooHigh ∷ BadLengths ∷ OutOfShape ∷ OutsideYears ∷ NoRoom ∷ Resend ∷ []

-- the code of the answer with a number; 0 where there is none
unfoldable pub code_for : ℕ → ℕ
code_for n = get_or (map code answers) n 0
