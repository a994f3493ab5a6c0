-- `amount::trimmed` meets its contract: in each turn the places of the number are those of the remainder.
use Prim.Native.Nat.{ℕ}
use mathlib.Core.Path.{◌≡◌, refl, ap, ◌∙◌}
use mathlib.Core.List.{List, ◌∷◌}
use native.Mathlib.Omega.{arith}
use borrow.Author.Tests.{eq-eqb, ne_eqb}
use Rattle.amount.specs.Amount.{fraction_text}
use Rattle.amount.specs.Digits.{pointed}
use Rattle.amount.proofs.Digits.{trim_step, full}
use Rattle.amount.proofs.trimmed.Goals as goal

pub returns-then-number-eq0 : goal.returns-then-number-eq0
unfolding fraction_text pointed
returns-then-number-eq0 c = (omega arith, simp (eq-eqb _ _ c.if-number-eq0.true))

pub loop-number-init : goal.loop-number-init
loop-number-init c = (omega arith, omega arith, omega arith, refl)

pub overflow_sub-count : goal.overflow_sub-count
overflow_sub-count c = let l = c.loop-number in (trim_step l.count l.number l.invariant.1 (omega arith) l.invariant.2).0

pub loop-number-preserved : goal.loop-number-preserved
loop-number-preserved c =
    let l = c.loop-number in
    let t = trim_step l.count l.number l.invariant.1 (omega arith) l.invariant.2 in
    (omega arith, omega arith, t.1, l.invariant.3 ∙ t.2)

pub returns : goal.returns
unfolding fraction_text pointed
returns c =
    let l = c.loop-number in
    let z : l.count ≡ 0 → ⊥ = λ e. let h = rw e at l.invariant.2 in omega arith in (
      l.invariant.0,
      simp (ne_eqb _ _ c.if-number-eq0.false, ne_eqb _ _ z)
          (ap (λ (s : List ℕ). 46 ∷ s) (l.invariant.3 ∙ full l.count l.number c.loop-number-test.false l.invariant.2)),
    )
