-- `abort`: 21, 1, and what is decided is carried out; the record can end where 0 is decided.
use mathlib.Core.Path.{◌≡◌, refl, sym, ◌∙◌}
use lib.ListN.{length}
use Rattle.std.proofs.Common.{true, rules, false}
use Rattle.octets.proofs.Walk.{length_unmap}
use Rattle.octets.specs.Parts.{zeros}
use Rattle.record.specs.Layout.{num, ended_row, payer_field}
use Rattle.record.specs.Rows.{row}
use Rattle.rules.specs.Calls.{abort as abort_call, in_form}
use Rattle.shape.specs.Shape.{shape}
use Rattle.shape.proofs.Sound.{sound}
use Rattle.book.specs.Step.{book_of}
use Rattle.book.specs.Inner.{Decided}
use Rattle.book.proofs.Replies.{out_of_shape_lem, not_in_form, by_rules}
use Rattle.book.proofs.Decisions.{decided_ends, decided_leaves}
use Rattle.abort.specs.Effect.{abort_step}
use Rattle.abort.specs.Inner.{by_state}
use Rattle.abort.proofs.States.{ends}
use Rattle.abort.proofs.abort.Goals as goal

pub returns-then-not-is_sound : goal.returns-then-not-is_sound
unfolding abort_step
returns-then-not-is_sound c =
    let a = c.args in
    rw c.reply.ensures (out_of_shape_lem (book_of a.h a.opened.now a.ended.now) _ (abort_call a.sender.now a.id.now a.code.now)
    refl (sym c.is_sound.ensures ∙ c.if-not-is_sound.true))

pub returns-in_default : goal.returns-in_default
unfolding abort_step
returns-in_default c =
    let a = c.args in
    let b = book_of a.h a.opened.now a.ended.now in
    let sound : shape b ≡ true = sym c.is_sound.ensures ∙ c.if-not-is_sound.false in
    let refused : in_form (abort_call a.sender.now a.id.now a.code.now) ≡ false = search rules in
    rw c.reply-in_default.ensures (not_in_form b _ (abort_call a.sender.now a.id.now a.code.now) (rw sound) refused)

pub decide-d-requires-clause-sound : goal.decide-d-requires-clause-sound
decide-d-requires-clause-sound c =
    let accounts : length c.args.h.accounts ≡ 32 = search (rules, length_unmap) depth 8 in
    sound _ accounts (sym c.is_sound.ensures ∙ c.if-not-is_sound.false)

pub carry_out-requires-clause-ends : goal.carry_out-requires-clause-ends
carry_out-requires-clause-ends c =
    let a = c.args in
    let b = book_of a.h a.opened.now a.ended.now in
    let accounts : length a.h.accounts ≡ 32 = search (rules, length_unmap) depth 8 in
    let decided : Decided b a.sender.now c.in-Ok.read.0 (by_state c.in-Ok.read.1) c.decide-d.result =
    c.decide-d.ensures (by_state c.in-Ok.read.1) (record { answer = λ r d p. search rules; ends = ends c.in-Ok.read.1 }) in
    let can = decided_ends b _ _ _ _ decided (sound b accounts (sym c.is_sound.ensures ∙ c.if-not-is_sound.false)) (num payer_field) (λ r s. s.payer) in
    record {
      slot = λ e. (can e).slot;
      ends = λ e i says. let named : i ≡ num payer_field (row b.opened c.decide-d.result.slot) = search rules in rw named (can e);
    }

pub returns : goal.returns
unfolding abort_step
returns c =
    let a = c.args in
    let b = book_of a.h a.opened.now a.ended.now in
    let decided : Decided b a.sender.now c.in-Ok.read.0 (by_state c.in-Ok.read.1) c.decide-d.result =
    c.decide-d.ensures (by_state c.in-Ok.read.1) (record { answer = λ r d p. search rules; ends = ends c.in-Ok.read.1 }) in
    let told = c.in-Ok.ensures in
    let sound : shape b ≡ true = sym c.is_sound.ensures ∙ c.if-not-is_sound.false in
    (rw c.aborted.ensures at (c.carry_out.ensures (num payer_field) (λ r i says. search rules)))
    ∙ decided_leaves b _ _ _ _ decided (num payer_field) (ended_row 4 2 c.in-Ok.read.1 (zeros 32))
    ∙ rw (← told.1, ← told.2) (sym (by_rules b _ (abort_call a.sender.now a.id.now a.code.now) (rw sound) told.0))
