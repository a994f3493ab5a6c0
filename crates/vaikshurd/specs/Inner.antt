-- What the inner functions ask for; no public promise cites these.
use Rattle.std.specs.Prelude.{◌*◌, ◌<◌, Option, Some, None, Ok, Err}
use Rattle.form.specs.Writing.{Written}
use Rattle.book.specs.declared.Place.{Place}
use Rattle.book.specs.declared.Place.TheVariants.{Opened, Ended}

-- the text's length fits the place of the mark
abbrev pub Short : Written → Type 0
Short (Ok n) = n < 4294967296
Short (Err e) = Unit {0}

-- the record's first byte fits the low half
abbrev pub Low : Option Place → Type 0
Low (Some (Opened k)) = k * 160 < 4294967296
Low (Some (Ended k)) = k * 160 < 4294967296
Low None = Unit {0}
