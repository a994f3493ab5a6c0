-- What every writer of a text answers, and what the lent buffer then holds (01, "Writers").
use Rattle.std.specs.Prelude.{ℕ, List, ◌++◌, cond, ltb, length, drop, Result, Ok, Err}
use Rattle.form.specs.declared.Unwritten.{Unwritten}
use Rattle.form.specs.declared.Unwritten.TheVariants.{NotInForm, OutsideYears, NoRoom}

-- the length of the text that was written, or why nothing was
abbrev pub Written : Type 0
Written = Result ℕ Unwritten

-- 01, "Numbers given back": "1 a field not in form", "22, 23 instant outside years 1000-9999 UTC; no room for the text"
abbrev pub number : Written → ℕ
number (Ok n) = 0
number (Err NotInForm) = 1
number (Err OutsideYears) = 22
number (Err NoRoom) = 23

-- a text that may be written, into so much room: 23, or its length
abbrev pub into_room : List ℕ → ℕ → Written
into_room text room = cond (ltb room (length text)) (Err NoRoom) (Ok (length text))

-- "All but 0 change nothing lent"; "bytes past the text stay"
abbrev pub buffer_after : Written → List ℕ → List ℕ → List ℕ
buffer_after (Ok n) text old = text ++ drop n old
buffer_after (Err e) text old = old
