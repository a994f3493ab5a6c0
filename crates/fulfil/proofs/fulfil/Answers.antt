-- `fulfil`: 21, 1, and what is decided is carried out; the record can end where 0 is decided.
use mathlib.Core.Path.{◌≡◌, refl, sym, ◌∙◌}
use lib.ListN.{length}
use Rattle.std.proofs.Common.{true, rules, false}
use Rattle.octets.proofs.Walk.{length_unmap}
use Rattle.record.specs.Layout.{num, ended_row, payee_field}
use Rattle.record.specs.Rows.{row}
use Rattle.rules.specs.Calls.{fulfil as fulfil_call, in_form}
use Rattle.shape.specs.Shape.{shape}
use Rattle.shape.proofs.Sound.{sound}
use Rattle.book.specs.Step.{book_of}
use Rattle.book.specs.Inner.{Decided}
use Rattle.book.proofs.Replies.{out_of_shape_lem, not_in_form, by_rules}
use Rattle.book.proofs.Decisions.{decided_ends, decided_leaves}
use Rattle.fulfil.specs.Effect.{fulfil_step}
use Rattle.fulfil.specs.Inner.{by_state}
use Rattle.fulfil.proofs.States.{ends}
use Rattle.fulfil.proofs.fulfil.Goals as goal

pub returns-then-not-is_sound : goal.returns-then-not-is_sound
unfolding fulfil_step
returns-then-not-is_sound c =
    let a = c.args in
    rw c.reply.ensures (out_of_shape_lem (book_of a.h a.opened.now a.ended.now) _ (fulfil_call a.sender.now a.id.now a.fulfilment.now)
    refl (sym c.is_sound.ensures ∙ c.if-not-is_sound.true))

pub returns-in_default : goal.returns-in_default
unfolding fulfil_step
returns-in_default c =
    let a = c.args in
    let b = book_of a.h a.opened.now a.ended.now in
    let sound : shape b ≡ true = sym c.is_sound.ensures ∙ c.if-not-is_sound.false in
    let refused : in_form (fulfil_call a.sender.now a.id.now a.fulfilment.now) ≡ false = search rules in
    rw c.reply-in_default.ensures (not_in_form b _ (fulfil_call a.sender.now a.id.now a.fulfilment.now) (rw sound) refused)

pub decide-d-requires-clause-sound : goal.decide-d-requires-clause-sound
decide-d-requires-clause-sound c =
    let accounts : length c.args.h.accounts ≡ 32 = search (rules, length_unmap) depth 8 in
    sound _ accounts (sym c.is_sound.ensures ∙ c.if-not-is_sound.false)

pub carry_out-requires-clause-ends : goal.carry_out-requires-clause-ends
carry_out-requires-clause-ends c =
    let a = c.args in
    let b = book_of a.h a.opened.now a.ended.now in
    let accounts : length a.h.accounts ≡ 32 = search (rules, length_unmap) depth 8 in
    let decided : Decided b a.sender.now c.in-Ok.read.0 (by_state c.in-Ok.read.1) c.decide-d.result =
    c.decide-d.ensures (by_state c.in-Ok.read.1) (record { answer = λ r d p. search rules; ends = ends c.in-Ok.read.1 }) in
    let can = decided_ends b _ _ _ _ decided (sound b accounts (sym c.is_sound.ensures ∙ c.if-not-is_sound.false)) (num payee_field) (λ r s. s.payee) in
    record {
      slot = λ e. (can e).slot;
      ends = λ e i says. let named : i ≡ num payee_field (row b.opened c.decide-d.result.slot) = search rules in rw named (can e);
    }

pub returns : goal.returns
unfolding fulfil_step
returns c =
    let a = c.args in
    let b = book_of a.h a.opened.now a.ended.now in
    let decided : Decided b a.sender.now c.in-Ok.read.0 (by_state c.in-Ok.read.1) c.decide-d.result =
    c.decide-d.ensures (by_state c.in-Ok.read.1) (record { answer = λ r d p. search rules; ends = ends c.in-Ok.read.1 }) in
    let told = c.in-Ok.ensures in
    let sound : shape b ≡ true = sym c.is_sound.ensures ∙ c.if-not-is_sound.false in
    (rw c.committed-ending.ensures at (c.carry_out.ensures (num payee_field) (λ r i says. search rules)))
    ∙ decided_leaves b _ _ _ _ decided (num payee_field) (ended_row 3 1 0 c.in-Ok.read.1)
    ∙ rw (← told.1, ← told.2) (sym (by_rules b _ (fulfil_call a.sender.now a.id.now a.fulfilment.now) (rw sound) told.0))
