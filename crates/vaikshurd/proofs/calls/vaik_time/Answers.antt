-- `vaik_time`: 21 on a head not of the form, and else what a time leaves.
use Rattle.time.specs.Effect.{time_step}
use Rattle.vaikshurd.proofs.Called.{formed_long, formless, list_formless, times}
use Rattle.vaikshurd.proofs.calls.vaik_time.Goals as goal

pub returns-then-not-is_formed : goal.returns-then-not-is_formed
returns-then-not-is_formed c =
    let s = c.args in (
      rw c.packed.ensures
          (formless s.head.now s.opened.now s.ended.now ((λ b. (time_step b c.args.list.now c.args.instant.now).outcome)) _ c.is_formed.ensures c.if-not-is_formed.true-raw),
      list_formless s.head.now s.opened.now s.ended.now s.list.now s.instant.now
          _ c.is_formed.ensures c.if-not-is_formed.true-raw,
    )

pub decode-h-requires : goal.decode-h-requires
decode-h-requires c = formed_long _ _ c.is_formed.ensures c.if-not-is_formed.false-raw

pub done-requires : goal.done-requires
done-requires c =
    formed_long _ _ c.is_formed.ensures c.if-not-is_formed.false-raw

pub returns : goal.returns
returns c =
    let s = c.args in
    times s.head.now s.opened.now s.ended.now _ c.decode-h.ensures c.time-r.result
    c.done.ensures s.list.now _ s.instant.now _ c.is_formed.ensures c.if-not-is_formed.false-raw c.time-r.ensures
