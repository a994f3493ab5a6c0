-- The words that name a call, and how many fields each has (01, the example of "A program over the library").
use Rattle.std.specs.Prelude.{ℕ, cond, List, [], ◌∷◌, Option, Some, None}
use Rattle.octets.specs.Ascii.{ascii}
use Rattle.octets.specs.Parts.{same}
use Rattle.rules.specs.Calls.{Text}
use Rattle.desk.specs.declared.words.Word.{Word}
use Rattle.desk.specs.declared.words.Word.TheVariants.{Open, Join, Prepare, Fulfil, Abort, Time}

-- a word and the call that it names
pub record Naming : Type 0 where
  pub text : Text
  pub word : Word

infixr 6 ◌names◌
abbrev pub ◌names◌ : Text → Word → Naming
t names w = record { text = t; word = w }

-- "It has no line for lookup."
abbrev pub namings : List Naming
namings =
    (ascii "OPEN" names Open)
    ∷ (ascii "JOIN" names Join)
    ∷ (ascii "PREPARE" names Prepare)
    ∷ (ascii "FULFIL" names Fulfil)
    ∷ (ascii "ABORT" names Abort)
    ∷ (ascii "TIME" names Time)
    ∷ []

abbrev pub named_in : List Naming → Text → Option Word
named_in [] s = None
named_in (n ∷ ns) s = cond (same s n.text) (Some n.word) (named_in ns s)

unfoldable pub word_of : Text → Option Word
word_of s = named_in namings s

abbrev pub fields_in : Word → ℕ
fields_in Open = 2
fields_in Join = 2
fields_in Prepare = 8
fields_in Fulfil = 3
fields_in Abort = 3
fields_in Time = 1
