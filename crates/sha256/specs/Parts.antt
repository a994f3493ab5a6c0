-- How the work is parted: the whole blocks of a message and the rest that the padding completes; a schedule that is there in part.
-- Only the contracts inside the crate use this; what `hash` promises does not.
use Rattle.std.specs.Prelude.{◌≡◌, ℕ, ◌+◌, ◌*◌, ◌/◌, min, List, length, take, drop}
use Rattle.sha256.specs.Sha256.{zero_count, schedule}

-- of n bytes, how many lie in whole blocks
abbrev pub wholes : ℕ → ℕ
wholes n = 64 * (n / 64)

-- what follows the whole blocks
abbrev pub rest : List ℕ → List ℕ
rest m = drop (wholes (length m)) m

-- the length of the padded message: n bytes, the mark, the zeros, the count
abbrev pub padded_length : ℕ → ℕ
padded_length n = n + 1 + zero_count n + 8

-- the first t words of the schedule of the block m are in w; there are 64 at most
abbrev pub There : ℕ → List ℕ → List ℕ → Type 0
There t m w = take t w ≡ schedule (min t 64) m
