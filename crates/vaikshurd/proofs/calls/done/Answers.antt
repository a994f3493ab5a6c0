-- `done`: the head is written where the answer is 0, and the answer packed.
use mathlib.Core.Path.{sym, ap, ◌∙◌}
use native.Mathlib.Omega.{arith}
use lib.ListN.{length}
use Rattle.vaikshurd.proofs.calls.done.Goals as goal
use Rattle.vaikshurd.proofs.calls.done.Goals.{then-is_done, else-is_done}

pub shape_of-head : goal.shape_of-head
shape_of-head c =
    elim c.if-is_done.branch [ then-is_done w ↦ omega (arith, ap length w.head-is) | else-is_done w ↦ omega (arith, ap length w.head-is) ]

pub returns : goal.returns
returns c = (
  c.packed.ensures,
  elim c.if-is_done.branch [
    | then-is_done w ↦ rw (w.head-is, w.encode.ensures, sym c.is_done.ensures ∙ w.if-is_done.true)
    | else-is_done w ↦ rw (w.head-is, sym c.is_done.ensures ∙ w.if-is_done.false)
  ],
)
