-- What a part of the input does: every line that has its newline is answered in turn, and the rest waits for its own.
use Rattle.std.specs.Prelude.{ℕ, Bool, true, false, cond, List, [], ◌∷◌, ltb, length}
use Rattle.shape.specs.Reading.{Book}
use Rattle.switch.specs.declared.Switch.{Switch}
use Rattle.switch.specs.Switch.{answered, book}

-- what stands between two lines
pub record Standing : Type 0 where
  pub book : Book
  pub list : List ℕ

abbrev pub standing : Switch → Standing
standing s = record { book = book s; list = s.list }

abbrev pub after : Standing → List ℕ → Standing
after k line = record { book = (answered k.book k.list line).left; list = (answered k.book k.list line).list }

-- what stands between two reads: the rest of the input so far that has no newline, and whether it is the rest of a line that is too long
pub record Waiting : Type 0 where
  pub stands : Standing
  pub skips : Bool
  pub rest : List ℕ

-- the pieces of the input cut at its newlines: all but the last are lines. Of a line that is too long only the end is among them, and it is
-- no call, as an empty line is none.
unfoldable pub through_lines : Bool → Standing → List (List ℕ) → Waiting
through_lines skips k [] = record { stands = k; skips = skips; rest = [] }
through_lines skips k (rest ∷ []) = record { stands = k; skips = skips; rest = rest }
through_lines skips k (line ∷ next ∷ more) = through_lines false (after k (cond skips [] line)) (next ∷ more)

-- what the program holds, beside the rest of the input
abbrev pub waiting : Switch → List ℕ → Waiting
waiting s rest = record { stands = standing s; skips = s.skips; rest = rest }

-- "at most 33,000 bytes": a rest that fills the buffer and has no newline is the start of a line that is too long
abbrev pub bounded : ℕ → Waiting → Waiting
bounded size w = cond (ltb (length w.rest) size) w (record { stands = w.stands; skips = true; rest = [] })
