-- 01, "Numbers given back": each answer's number, and the API's error code.
use Rattle.std.specs.Prelude.{ℕ, Bool, eqb}
use Rattle.rules.specs.declared.Answer.{Answer}
use Rattle.rules.specs.declared.Answer.TheVariants.{Done, NotInForm, NoPayer, NoPayee, PayerIsPayee, OtherCurrency, OtherContent, Expired, OpenBookFull, NoPlaceLeft, CapPassed, UnknownId, NotThePayee, EndedAnotherWay, NoMatch, ClockGoesBack, ListTooShort, NameHeld, AccountsFull, CapTooHigh, BadLengths, OutOfShape, OutsideYears, NoRoom, Resend}

abbrev pub number : Answer → ℕ
number Done = 0
number NotInForm = 1
number NoPayer = 2
number NoPayee = 3
number PayerIsPayee = 4
number OtherCurrency = 5
number OtherContent = 6
number Expired = 7
number OpenBookFull = 8
number NoPlaceLeft = 9
number CapPassed = 10
number UnknownId = 11
number NotThePayee = 12
number EndedAnotherWay = 13
number NoMatch = 14
number ClockGoesBack = 15
number ListTooShort = 16
number NameHeld = 17
number AccountsFull = 18
number CapTooHigh = 19
number BadLengths = 20
number OutOfShape = 21
number OutsideYears = 22
number NoRoom = 23
number Resend = 24

abbrev pub code : Answer → ℕ
code Done = 0
code NotInForm = 3101
code NoPayer = 3202
code NoPayee = 3203
code PayerIsPayee = 3100
code OtherCurrency = 3100
code OtherContent = 3106
code Expired = 3303
code OpenBookFull = 2005
code NoPlaceLeft = 2003
code CapPassed = 4001
code UnknownId = 3208
code NotThePayee = 3100
code EndedAnotherWay = 3100
code NoMatch = 3100
code ClockGoesBack = 0
code ListTooShort = 0
code NameHeld = 0
code AccountsFull = 0
code CapTooHigh = 0
code BadLengths = 0
code OutOfShape = 2001
code OutsideYears = 0
code NoRoom = 0
code Resend = 0

-- "All but 0 change nothing lent and no state"
abbrev pub is_done : Answer → Bool
is_done a = eqb (number a) 0
