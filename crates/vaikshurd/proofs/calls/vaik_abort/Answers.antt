-- `vaik_abort`: 21 on a head not of the form, and else what an abort leaves.
use Rattle.abort.specs.Effect.{abort_step}
use Rattle.vaikshurd.proofs.Called.{formed_long, formless, stepped}
use Rattle.vaikshurd.proofs.calls.vaik_abort.Goals as goal

pub returns-then-not-is_formed : goal.returns-then-not-is_formed
returns-then-not-is_formed c =
    rw c.packed.ensures
    (formless c.args.head.now c.args.opened.now c.args.ended.now (λ b. abort_step b c.args.sender.now c.args.id.now c.args.code.now)
    _ c.is_formed.ensures c.if-not-is_formed.true-raw)

pub decode-h-requires : goal.decode-h-requires
decode-h-requires c = formed_long _ _ c.is_formed.ensures c.if-not-is_formed.false-raw

pub done-requires : goal.done-requires
done-requires c =
    formed_long _ _ c.is_formed.ensures c.if-not-is_formed.false-raw

pub returns : goal.returns
returns c =
    stepped c.args.head.now c.args.opened.now c.args.ended.now
    _ c.decode-h.ensures c.abort-r.result c.done.ensures (λ b. abort_step b c.args.sender.now c.args.id.now c.args.code.now)
    _ c.is_formed.ensures c.if-not-is_formed.false-raw c.abort-r.ensures
