-- A book as a list of records.
use Rattle.std.specs.Prelude.{ℕ, zero, suc, ◌*◌, Bool, not, ◌&&◌, List, [], ◌∷◌, take, drop}
use Rattle.octets.specs.Parts.{part, same}
use Rattle.record.specs.Layout.{Row, get, id_field, is_free}

-- the first n records of a book
abbrev pub rows : ℕ → List ℕ → List Row
rows zero b = []
rows (suc n) b = take 160 b ∷ rows n (drop 160 b)

-- record k
abbrev pub row : List ℕ → ℕ → Row
row b k = part b (k * 160) 160

-- a record, not a free slot, with this id
unfoldable pub holds : List ℕ → Row → Bool
holds id r = not (is_free r) && same (get id_field r) id
