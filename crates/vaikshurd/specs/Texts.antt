-- What the exported readers and writers leave: the answer in one number, and the lent numbers and bytes.
use Rattle.std.specs.Prelude.{ℕ, cond, List, ltb, ℤ, length, Result, Ok, Err}
use Rattle.std.proofs.lemmas.List.Edits.{sets}
use Rattle.form.specs.declared.Stop.{Stop}
use Rattle.form.specs.declared.Unwritten.TheVariants.{NotInForm, OutsideYears, NoRoom}
use Rattle.form.specs.Writing.{Written, buffer_after}
use Rattle.rules.specs.declared.Answer.TheVariants as answers
use Rattle.amount.specs.declared.Amount.{Amount}
use Rattle.vaikshurd.specs.Packed.{word}

-- an amount's units and remainder, or 1 and what was there
abbrev pub amount_left : Result Amount Stop → ℕ → ℕ → ℕ × ℕ × ℕ
amount_left (Ok a) units remainder = (word answers.Done 0, a.units, a.remainder)
amount_left (Err n) units remainder = (word answers.NotInForm 0, units, remainder)

abbrev pub instant_left : Result ℤ Stop → ℤ → ℕ × ℤ
instant_left (Ok t) instant = (word answers.Done 0, t)
instant_left (Err n) instant = (word answers.NotInForm 0, instant)

-- the bytes of an id or a condition at the front of the lent buffer; 1; 23 where it has no room for them
abbrev pub bytes_left : Result (List ℕ) Stop → List ℕ → ℕ × List ℕ
bytes_left (Ok value) out =
    cond (ltb (length out) (length value)) (word answers.NoRoom 0, out) (word answers.Done 0, sets out 0 value)
bytes_left (Err n) out = (word answers.NotInForm 0, out)

-- "held as whole units and a remainder": as the gateway hands them over
abbrev pub amount_held : ℕ → ℕ → Amount
amount_held units remainder = record { units = units; remainder = remainder }

-- a writer's answer, with the text's length in the place of the mark
abbrev pub written_word : Written → ℕ
written_word (Ok n) = word answers.Done n
written_word (Err NotInForm) = word answers.NotInForm 0
written_word (Err OutsideYears) = word answers.OutsideYears 0
written_word (Err NoRoom) = word answers.NoRoom 0

-- and the buffer with the text at its front; "bytes past the text stay"
abbrev pub text_left : Written → List ℕ → List ℕ → ℕ × List ℕ
text_left w text out = (written_word w, buffer_after w text out)
