-- An abort is done on a RESERVED transfer only.
use Prim.Native.Nat.{ℕ}
use mathlib.Core.Path.{◌≡◌, refl}
use mathlib.Core.Bool.{true}
use lib.Dec.{eqb}
use Rattle.rules.specs.Answers.{is_done}
use Rattle.rules.specs.View.{State, reserved, committed, aborted, expired, Transfer}
use Rattle.rules.specs.Rules.{abort_state}
use Rattle.book.proofs.Decisions.{clash, not-resent}
use Rattle.abort.specs.Inner.{by_state}

by : (s : State) (code : ℕ) → is_done (abort_state s code) ≡ true → s ≡ reserved
by reserved code e = refl
by (committed f) code e = clash e
by (aborted d) code e = not-resent (eqb d code) e
by expired code e = clash e

pub ends : (code : ℕ) (t : Transfer) → is_done (by_state code t) ≡ true → t.state ≡ reserved
ends code t e = by t.state code e
