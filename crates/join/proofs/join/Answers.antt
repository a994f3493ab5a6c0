-- `join`: 21, 1, and what is decided on the fields' values.
use Rattle.std.proofs.Common.{◌≡◌, length, rules, sym, ◌∙◌}
use Rattle.octets.proofs.Walk.{length_unmap}
use Rattle.book.specs.Step.{book_of}
use Rattle.join.proofs.Joining.{join_out_of_shape, join_not_in_form, can_join, join_decided}
use Rattle.join.proofs.join.Goals as goal

pub returns-then-not-is_sound : goal.returns-then-not-is_sound
returns-then-not-is_sound c =
    let a = c.args in
    rw c.reply.ensures
    (join_out_of_shape (book_of a.h a.opened.now a.ended.now) a.name.now a.cap.now (sym c.is_sound.ensures ∙ c.if-not-is_sound.true))

pub returns-in_default : goal.returns-in_default
returns-in_default c =
    let a = c.args in
    rw c.reply-in_default.ensures
    (join_not_in_form (book_of a.h a.opened.now a.ended.now) a.name.now a.cap.now (sym c.is_sound.ensures ∙ c.if-not-is_sound.false)
    c.in_default.ensures)

pub joined-requires : goal.joined-requires
joined-requires c =
    let a = c.args in
    let long : length a.h.accounts ≡ 32 = search (rules, length_unmap) depth 8 in
    can_join (book_of a.h a.opened.now a.ended.now) a.name.now a.cap.now (sym c.is_sound.ensures ∙ c.if-not-is_sound.false) long
    c.in-Ok.ensures.0 _ c.in-Ok.ensures.1

pub returns-in-Ok-joined : goal.returns-in-Ok-joined
returns-in-Ok-joined c =
    let a = c.args in
    let long : length a.h.accounts ≡ 32 = search (rules, length_unmap) depth 8 in
    rw c.reply-in-Ok-joined.ensures
    (join_decided (book_of a.h a.opened.now a.ended.now) a.name.now a.cap.now (sym c.is_sound.ensures ∙ c.if-not-is_sound.false) long
    c.in-Ok.ensures.0 _ _ c.in-Ok.ensures.1 (sym c.in-Ok-joined.is ∙ c.joined.ensures))

pub returns-in-Err : goal.returns-in-Err
returns-in-Err c =
    let a = c.args in
    let long : length a.h.accounts ≡ 32 = search (rules, length_unmap) depth 8 in
    rw c.reply-in-Err.ensures
    (join_decided (book_of a.h a.opened.now a.ended.now) a.name.now a.cap.now (sym c.is_sound.ensures ∙ c.if-not-is_sound.false) long
    c.in-Ok.ensures.0 _ _ c.in-Ok.ensures.1 (sym c.in-Err.is ∙ c.joined.ensures))
