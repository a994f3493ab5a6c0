-- `decide`: by whether a book holds the id.
use Rattle.std.proofs.Common.{◌≡◌, length, ap, rules, sym, ◌∙◌}
use Rattle.octets.proofs.Walk.{length_unmap}
use Rattle.book.specs.Inner.{row_at}
use Rattle.book.specs.Step.{book_of}
use Rattle.book.proofs.Held.{held_at}
use Rattle.book.proofs.Decisions.{in_books}
use Rattle.prepare.proofs.Places.{found_comparable}
use Rattle.prepare.proofs.Verdict.{new_rises, without_record, new_decided, held_decided}
use Rattle.prepare.proofs.decide.Goals as goal

pub decide_new-requires : goal.decide_new-requires
decide_new-requires c =
    let a = c.args in
    let b = book_of a.h a.opened.now a.ended.now in
    let long : length a.h.accounts ≡ 32 = search (rules, length_unmap) depth 8 in (
      (in_books b c.requires.0).slots,
      rw c.decide_parties-parties.ensures
          (new_rises b c.requires.0 long a.names.payer.now a.names.payee.now a.names.currency.now a.c c.requires.1),
    )

pub returns-in_default : goal.returns-in_default
returns-in_default c =
    let a = c.args in
    let b = book_of a.h a.opened.now a.ended.now in
    let long : length a.h.accounts ≡ 32 = search (rules, length_unmap) depth 8 in
    let mapped : c.map_err.result ≡ without_record c.decide_new.result = search rules in
    mapped ∙ new_decided b c.requires.0 long a.names.payer.now a.names.payee.now a.names.currency.now a.c
    (held_at b a.c.id ∙ ap (row_at b) (sym c.find.ensures ∙ c.in_default.is)) _ _ c.decide_parties-parties.ensures c.decide_new.ensures

pub on_record-requires : goal.on_record-requires
on_record-requires c =
    let a = c.args in
    rw c.record_at-row.ensures
    (found_comparable (book_of a.h a.opened.now a.ended.now) c.requires.0 a.c.id c.in-Some.place a.c (sym c.find.ensures ∙ c.in-Some.is) c.requires.1)

pub returns : goal.returns
returns c =
    let a = c.args in
    let b = book_of a.h a.opened.now a.ended.now in
    let long : length a.h.accounts ≡ 32 = search (rules, length_unmap) depth 8 in
    rw (c.on_record.ensures, c.record_at-row.ensures)
    (held_decided b c.requires.0 long a.names.payer.now a.names.payee.now a.names.currency.now a.c _
    (held_at b a.c.id ∙ ap (row_at b) (sym c.find.ensures ∙ c.in-Some.is)) _ c.decide_parties-parties.ensures)
