-- `find`: 21, 1, 11, and else where the search finds the record.
use mathlib.Core.Path.{◌≡◌, sym, ◌∙◌}
use lib.ListN.{length}
use Rattle.std.proofs.Common.{rules}
use Rattle.octets.proofs.Walk.{length_unmap}
use Rattle.rules.proofs.Fields.{id-value, id_refused}
use Rattle.shape.proofs.Sound.{sound}
use Rattle.book.specs.Step.{book_of}
use Rattle.book.proofs.Decisions.{in_books}
use Rattle.lookup.proofs.Found.{lookup_out_of_shape, nowhere_out_of_shape, lookup_not_in_form, nowhere_not_in_form, told}
use Rattle.lookup.proofs.find.Goals as goal

pub returns-then-not-is_sound : goal.returns-then-not-is_sound
returns-then-not-is_sound c =
    let misshapen = sym c.is_sound.ensures ∙ c.if-not-is_sound.true in
    (lookup_out_of_shape _ _ misshapen, nowhere_out_of_shape _ _ misshapen)

pub returns-in_default : goal.returns-in_default
returns-in_default c =
    let a = c.args in
    let b = book_of a.h a.opened.now a.ended.now in
    let s = sym c.is_sound.ensures ∙ c.if-not-is_sound.false in
    let refused = id_refused a.id.now c.in_default.field-0 (sym c.read_id.ensures ∙ c.in_default.is) in
    (lookup_not_in_form b a.id.now s refused, nowhere_not_in_form b a.id.now s refused)

pub find-requires : goal.find-requires
find-requires c =
    let a = c.args in
    let accounts : length a.h.accounts ≡ 32 = search (rules, length_unmap) depth 8 in
    in_books _ (sound (book_of a.h a.opened.now a.ended.now) accounts (sym c.is_sound.ensures ∙ c.if-not-is_sound.false))

pub returns : goal.returns
returns c =
    let a = c.args in
    let b = book_of a.h a.opened.now a.ended.now in
    let accounts : length a.h.accounts ≡ 32 = search (rules, length_unmap) depth 8 in
    let v = id-value a.id.now _ (sym c.read_id.ensures ∙ c.in-Ok.is) in
    rw c.ok_or.ensures.value
    (told b a.id.now accounts (sym c.is_sound.ensures ∙ c.if-not-is_sound.false) v.0 c.find.result (c.find.ensures ∙ rw v.1))
