-- `vaik_join`: 21 on a head not of the form, and else what a join leaves.
use Rattle.join.specs.Effect.{join_step}
use Rattle.vaikshurd.proofs.Called.{formed_long, formless, stepped}
use Rattle.vaikshurd.proofs.calls.vaik_join.Goals as goal

pub returns-then-not-is_formed : goal.returns-then-not-is_formed
returns-then-not-is_formed c =
    rw c.packed.ensures
    (formless c.args.head.now c.args.opened.now c.args.ended.now (λ b. join_step b c.args.name.now c.args.cap.now)
    _ c.is_formed.ensures c.if-not-is_formed.true-raw)

pub decode-h-requires : goal.decode-h-requires
decode-h-requires c = formed_long _ _ c.is_formed.ensures c.if-not-is_formed.false-raw

pub done-requires : goal.done-requires
done-requires c =
    formed_long _ _ c.is_formed.ensures c.if-not-is_formed.false-raw

pub returns : goal.returns
returns c =
    stepped c.args.head.now c.args.opened.now c.args.ended.now
    _ c.decode-h.ensures c.join-r.result c.done.ensures (λ b. join_step b c.args.name.now c.args.cap.now)
    _ c.is_formed.ensures c.if-not-is_formed.false-raw c.join-r.ensures
