-- The plain meaning of a form: which texts match it.
use Rattle.std.specs.Prelude.{ℕ, suc, ◌≤◌, ◌<◌, ◌≡◌, List, [], ◌∷◌, ◌++◌, length, take}
use Rattle.form.specs.Regex.{Re, empty, range, seq, alt, upto}

pub data Matches : Re → List ℕ → Type 0 where
  nothing : Matches empty []
  one : {a b : ℕ} (c : ℕ) → a ≤ c → c ≤ b → Matches (range a b) (c ∷ [])
  joined : {p q : Re} {s : List ℕ} (u v : List ℕ) → s ≡ u ++ v → Matches p u → Matches q v → Matches (seq p q) s
  left : {p q : Re} {s : List ℕ} → Matches p s → Matches (alt p q) s
  right : {p q : Re} {s : List ℕ} → Matches q s → Matches (alt p q) s
  stop : {n : ℕ} {r : Re} → Matches (upto n r) []
  again : {n : ℕ} {r : Re} {s : List ℕ} (u v : List ℕ) → s ≡ u ++ v → Matches r u → Matches (upto n r) v → Matches (upto (suc n) r) s

-- t begins with u
abbrev pub Begins : List ℕ → List ℕ → Type 0
Begins u t = (w : List ℕ) × (t ≡ u ++ w)

-- 02, L1: "the offset in that field of the first byte at which no text of the form can go on":
-- no text that begins with the first n + 1 bytes matches, and some text that begins with the first n does
pub record StopsInside (r : Re) (s : List ℕ) (n : ℕ) : Type 0 where
  pub inside : n < length s
  pub dead : (t : List ℕ) → Begins (take (suc n) s) t → Matches r t → ⊥
  pub before : (t : List ℕ) × Begins (take n s) t × Matches r t

-- "for a text that stops too soon, its length": it does not match, and some longer text that begins with it does
pub record StopsShort (r : Re) (s : List ℕ) (n : ℕ) : Type 0 where
  pub whole : n ≡ length s
  pub unmatched : Matches r s → ⊥
  pub longer : (t : List ℕ) × Begins s t × (length s < length t) × Matches r t
