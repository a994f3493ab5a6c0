-- Pieces laid one behind the other: each is found at the sum of the lengths before it.
use Prim.Native.Nat.{ℕ, zero, suc, ◌+◌, ◌<◌}
use mathlib.Core.Path.{◌≡◌, ap, ◌∙◌}
use mathlib.Core.List.{List, [], ◌∷◌, ◌++◌}
use native.Mathlib.Omega.{arith}
use lib.ListN.{length, take, get_or}
use lib.Seq.{take-append_seam, drop-append-add, get_or-append-add}
use Rattle.octets.specs.Parts.{part}
use Rattle.octets.proofs.Lists.{at_left}

abbrev pub laid : List (List ℕ) → List ℕ → List ℕ
laid [] rest = rest
laid (v ∷ vs) rest = v ++ laid vs rest

abbrev pub size : List (List ℕ) → ℕ
size [] = 0
size (v ∷ vs) = length v + size vs

piece_at : (vs : List (List ℕ)) (rest : List ℕ) (i : ℕ) → i < length vs →
    part (laid vs rest) (size (take i vs)) (length (get_or vs i [])) ≡ get_or vs i []
piece_at [] rest i h = absurd (omega arith)
piece_at (v ∷ vs) rest zero h = take-append_seam v (laid vs rest)
piece_at (v ∷ vs) rest (suc i) h =
    ap (take (length (get_or vs i []))) (drop-append-add v (laid vs rest) (size (take i vs))) ∙ piece_at vs rest i (omega arith)

byte_in : (vs : List (List ℕ)) (rest : List ℕ) (i : ℕ) → i < length vs → 0 < length (get_or vs i []) →
    get_or (laid vs rest) (size (take i vs)) 0 ≡ get_or (get_or vs i []) 0 0
byte_in [] rest i h k = absurd (omega arith)
byte_in (v ∷ vs) rest zero h k = at_left v (laid vs rest) 0 k
byte_in (v ∷ vs) rest (suc i) h k = get_or-append-add v (laid vs rest) (size (take i vs)) 0 ∙ byte_in vs rest i (omega arith) k

-- at a place and of a width that are known
module _ (vs : List (List ℕ)) (rest : List ℕ) (i at : ℕ) (h : i < length vs) (e : size (take i vs) ≡ at) where
  pub piece : {w : ℕ} → length (get_or vs i []) ≡ w → part (laid vs rest) at w ≡ get_or vs i []
  piece f = rw (← e, ← f) (piece_at vs rest i h)

  pub piece_byte : 0 < length (get_or vs i []) → get_or (laid vs rest) at 0 ≡ get_or (get_or vs i []) 0 0
  piece_byte k = rw (← e) (byte_in vs rest i h k)
