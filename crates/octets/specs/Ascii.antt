-- Texts in quotes as lists of bytes, so that a definition shows the characters that the documents show.
use Rattle.std.specs.Prelude.{ℕ, List, [], ◌∷◌}
use Prim.Native.Char.{code}
use Prim.Native.String as Quoted
use Prim.Native.String.{String}

-- the bytes of a text of ASCII characters
abbrev pub ascii : String → List ℕ
ascii Quoted.[] = []
ascii (Quoted.◌∷◌ c s) = code c ∷ ascii s
