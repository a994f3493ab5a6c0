-- A promise that is an equation to a definition settles the answer: two answers that meet it are equal. Once for every reader, and once for
-- every writer with its buffer.
use mathlib.Core.Path.{◌≡◌, sym, ◌∙◌}
use mathlib.Core.List.{List}
use Prim.Native.Nat.{ℕ}
use Rattle.form.specs.Writing.{buffer_after}
use Rattle.form.specs.Writing.{Written}

pub one_answer : {A : Type 0} (defined r r' : A) → r ≡ defined → r' ≡ defined → r ≡ r'
one_answer defined r r' e f = e ∙ sym f

pub one_writing : (defined r r' : Written) (text old out out' : List ℕ) → (r ≡ defined) × (out ≡ buffer_after r text old) →
    (r' ≡ defined) × (out' ≡ buffer_after r' text old) → (r ≡ r') × (out ≡ out')
one_writing defined r r' text old out out' p q =
    let e = one_answer defined r r' p.0 q.0 in
    (e, p.1 ∙ (λ i. buffer_after (e i) text old) ∙ sym q.1)
