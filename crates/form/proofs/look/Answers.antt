-- `form::look` meets its contract: inside the table the entry is read, and past it nothing goes on.
use native.Mathlib.Omega.{arith}
use Rattle.form.proofs.Judged.{entry_in, entry_past}
use Rattle.form.proofs.look.Goals as goal

pub returns-then-next-q : goal.returns-then-next-q
returns-then-next-q c = let a = c.args in entry_past a.next.now a.q a.k (omega arith)

pub returns-then-column-next : goal.returns-then-column-next
returns-then-column-next c = let a = c.args in rw c.from-column.ensures (entry_in a.next.now a.q a.k (omega arith))

pub returns : goal.returns
returns c = let a = c.args in entry_past a.next.now a.q a.k (omega arith)
