-- `vaik_lookup`: 21 on a head not of the form, and else the answer of a lookup.
use mathlib.Core.Path.{refl, ap}
use Rattle.lookup.specs.Effect.{lookup_step}
use Rattle.vaikshurd.specs.Face.{Left}
use Rattle.vaikshurd.proofs.Called.{formed_long, formless, stepped}
use Rattle.vaikshurd.proofs.lookups.vaik_lookup.Goals as goal

pub returns-then-not-is_formed : goal.returns-then-not-is_formed
returns-then-not-is_formed c =
    let s = c.args in
    rw c.packed.ensures (ap (λ (l : Left). l.answer)
    (formless s.head.now s.opened.now s.ended.now (λ b. lookup_step b c.args.id.now) _ c.is_formed.ensures c.if-not-is_formed.true-raw))

pub decode-h-requires : goal.decode-h-requires
decode-h-requires c = formed_long _ _ c.is_formed.ensures c.if-not-is_formed.false-raw

pub returns : goal.returns
returns c =
    let s = c.args in
    rw c.packed-2.ensures (ap (λ (c : Left). c.answer)
    (stepped s.head.now s.opened.now s.ended.now _ c.decode-h.ensures c.lookup-r.result (refl, refl) (λ b. lookup_step b c.args.id.now)
    _ c.is_formed.ensures c.if-not-is_formed.false-raw c.lookup-r.ensures))
