-- `form::run` meets its contract: the verdict on the bytes to come is the verdict on the whole text.
use Prim.Native.Nat.{ℕ}
use mathlib.Core.Path.{sym, ◌∙◌}
use borrow.Author.Rules.{rules}
use Rattle.octets.proofs.Lists.{bytes}
use Rattle.form.proofs.Judged.{stop_at, go_on, stop_end, fit-end}
use Rattle.form.proofs.run.Goals as goal

pub returns-then-t : goal.returns-then-t
returns-then-t c =
    let a = c.args in
    let l = c.loop-i in (
      stop_at a.class.now a.next.now a.s.now l.i l.q c.step-t.result _ l.invariant c.loop-i-test.true
          c.step-t.ensures c.if-t.true,
      bytes a.s.now (λ (k : ℕ). (c.type_inv.s k).fits),
    )

pub loop-i-preserved : goal.loop-i-preserved
loop-i-preserved c =
    let a = c.args in
    let l = c.loop-i in
    go_on a.class.now a.next.now a.s.now l.i l.q c.from-q.result _ l.invariant c.loop-i-test.true
    (c.from-q.ensures ∙ c.step-t.ensures) (λ x. c.if-t.false (sym c.from-q.ensures ∙ x))

pub returns-then-look : goal.returns-then-look
returns-then-look c =
    let a = c.args in
    let l = c.loop-i in (
      stop_end a.class.now a.next.now a.s.now l.i l.q c.look.result _ l.invariant (search rules)
          (search rules) c.look.ensures c.if-look.true,
      bytes a.s.now (λ (k : ℕ). (c.type_inv.s k).fits),
    )

pub returns : goal.returns
returns c =
    let a = c.args in
    let l = c.loop-i in (
      fit-end a.class.now a.next.now a.s.now l.i l.q c.look.result _ l.invariant (search rules)
          (search rules) c.look.ensures c.if-look.false,
      bytes a.s.now (λ (k : ℕ). (c.type_inv.s k).fits),
    )
