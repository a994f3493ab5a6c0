-- A fulfil is done on a RESERVED transfer only.
use Prim.Native.Nat.{ℕ}
use mathlib.Core.Path.{◌≡◌, refl}
use mathlib.Core.Bool.{true}
use mathlib.Core.List.{List}
use Rattle.octets.specs.Parts.{same}
use Rattle.rules.specs.Answers.{is_done}
use Rattle.rules.specs.Calls.{Content}
use Rattle.rules.specs.View.{State, reserved, committed, aborted, expired, Transfer}
use Rattle.rules.specs.Rules.{fulfil_state}
use Rattle.book.proofs.Decisions.{clash, not-resent}
use Rattle.fulfil.specs.Inner.{by_state}

by : (s : State) (c : Content) (fulfilment : List ℕ) → is_done (fulfil_state s c fulfilment) ≡ true → s ≡ reserved
by reserved c fulfilment e = refl
by (committed f) c fulfilment e = not-resent (same f fulfilment) e
by (aborted d) c fulfilment e = clash e
by expired c fulfilment e = clash e

pub ends : (fulfilment : List ℕ) (t : Transfer) → is_done (by_state fulfilment t) ≡ true → t.state ≡ reserved
ends fulfilment t e = by t.state t.content fulfilment e
