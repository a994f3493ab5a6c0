-- `prepare`: 21, then 1, then the rules, on the values that the texts say.
use Rattle.std.proofs.Common.{◌≡◌, true, length, rules, sym, ◌∙◌}
use Rattle.octets.proofs.Walk.{length_unmap}
use Rattle.shape.specs.Shape.{shape}
use Rattle.shape.proofs.Sound.{sound}
use Rattle.book.specs.Step.{book_of}
use Rattle.prepare.proofs.Texts.{ranged}
use Rattle.prepare.proofs.Stepped.{unshaped, unformed, stepped_with}
use Rattle.prepare.proofs.Verdict.{can_reserve, reserved_lem, refused_lem}
use Rattle.prepare.proofs.prepare.Goals as goal

pub returns-then-not-is_sound : goal.returns-then-not-is_sound
returns-then-not-is_sound c =
    let a = c.args in
    rw c.reply.ensures (unshaped (book_of a.h a.opened.now a.ended.now) _ (sym c.is_sound.ensures ∙ c.if-not-is_sound.true))

pub returns-in_default : goal.returns-in_default
returns-in_default c =
    let a = c.args in
    rw c.reply-in_default.ensures
    (unformed (book_of a.h a.opened.now a.ended.now) _ (sym c.is_sound.ensures ∙ c.if-not-is_sound.false) c.in_default.ensures)

pub decide-requires : goal.decide-requires
decide-requires c =
    let a = c.args in
    let long : length a.h.accounts ≡ 32 = search (rules, length_unmap) depth 8 in (
      sound (book_of a.h a.opened.now a.ended.now) long (sym c.is_sound.ensures ∙ c.if-not-is_sound.false),
      ranged a.id.now a.amount.now a.condition.now a.expiration.now a.packet.now _ _ c.in-Ok.ensures,
    )

pub reserve-requires : goal.reserve-requires
reserve-requires c =
    let a = c.args in
    let b = book_of a.h a.opened.now a.ended.now in
    let long : length a.h.accounts ≡ 32 = search (rules, length_unmap) depth 8 in
    let shaped : shape b ≡ true = sym c.is_sound.ensures ∙ c.if-not-is_sound.false in
    can_reserve b (sound b long shaped) long a.payer.now a.payee.now a.currency.now c.in-Ok.c
    (ranged a.id.now a.amount.now a.condition.now a.expiration.now a.packet.now _ _ c.in-Ok.ensures) c.in-Ok-decide.reservation
    (sym c.decide.ensures ∙ c.in-Ok-decide.is)

pub returns-in-Ok-decide : goal.returns-in-Ok-decide
returns-in-Ok-decide c =
    let a = c.args in
    let b = book_of a.h a.opened.now a.ended.now in
    let long : length a.h.accounts ≡ 32 = search (rules, length_unmap) depth 8 in
    let shaped : shape b ≡ true = sym c.is_sound.ensures ∙ c.if-not-is_sound.false in
    rw (c.reserve.ensures.0, c.reserve.ensures.1)
    (reserved_lem b (sound b long shaped) long a.payer.now a.payee.now a.currency.now c.in-Ok.c c.in-Ok-decide.reservation
    (sym c.decide.ensures ∙ c.in-Ok-decide.is) ∙ stepped_with b _ shaped c.in-Ok.c c.in-Ok.ensures)

pub returns-in-Err : goal.returns-in-Err
returns-in-Err c =
    let a = c.args in
    let b = book_of a.h a.opened.now a.ended.now in
    let long : length a.h.accounts ≡ 32 = search (rules, length_unmap) depth 8 in
    let shaped : shape b ≡ true = sym c.is_sound.ensures ∙ c.if-not-is_sound.false in
    rw c.reply-in-Err.ensures
    (refused_lem b (sound b long shaped) long a.payer.now a.payee.now a.currency.now c.in-Ok.c c.in-Err.refusal
    (sym c.decide.ensures ∙ c.in-Err.is) ∙ stepped_with b _ shaped c.in-Ok.c c.in-Ok.ensures)
