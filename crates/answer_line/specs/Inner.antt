-- What the inner functions go by; no public promise cites this.
use Rattle.std.specs.Prelude.{ℕ, ◌+◌, ◌≤◌, ◌≡◌, List, length}
use Rattle.std.proofs.lemmas.List.Edits.{sets}

-- a text of at most so many bytes was put at a place, and this is where it ends
pub record Put (most : ℕ) (text : List ℕ) (at : ℕ) (old new : List ℕ) (end : ℕ) : Type 0 where
  pub stored : new ≡ sets old at text
  pub ends : end ≡ at + length text
  pub few : end ≤ at + most
