-- What a form says of a text, and what a reader of values answers by it.
use Rattle.std.specs.Prelude.{ℕ, ⊤, Result, Ok, Err}
use Rattle.form.specs.declared.Stop.{Stop}

-- the text is of the form, or no text of the form goes on at an offset
abbrev pub Verdict : Type 0
Verdict = Result ⊤ Stop

abbrev pub of_form : Verdict
of_form = Ok tt

abbrev pub stops_at : {A : Type 0} → ℕ → Result A Stop
stops_at n = Err (record { at = n })

-- a text of the form has a value; any other is refused where the form stops
abbrev pub value_by : {A : Type 0} → Verdict → A → Result A Stop
value_by (Ok u) v = Ok v
value_by (Err e) v = Err e
