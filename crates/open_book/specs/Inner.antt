-- What the inner functions go by; no public promise cites these.
use Rattle.std.specs.Prelude.{ℕ, ◌/◌, cond, ◌&&◌, Option, Some, None, List, ℤ}
use Rattle.account.specs.declared.Head.{Head}
use Rattle.rules.specs.Rules.{length_for}
use Rattle.open_book.specs.Effect.{fresh_head}

-- how many records a book of so many bytes has
abbrev pub records_in : ℕ → ℕ → Option ℕ
records_in most bytes = cond (length_for most bytes) (Some (bytes / 160)) None

-- the head of a book afresh, for books of so many bytes
abbrev pub fresh_for : ℕ → ℕ → List ℕ → ℤ → Option Head
fresh_for opened ended currency clock =
    cond (length_for 1024 opened && length_for 65535 ended) (Some (fresh_head currency clock (opened / 160) (ended / 160))) None
