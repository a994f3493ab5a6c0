-- `open_book`: 1 where a field is not in form, 20 where a length is wrong, and else the book afresh.
use Rattle.std.proofs.Common.{rules, sym, ◌∙◌, SFits, w64}
use mir.Facts.{to_z-of_z}
use Rattle.octets.specs.Parts.{zeros}
use Rattle.octets.proofs.Tests.{both}
use Rattle.rules.proofs.Fields.{fits_form}
use Rattle.book.specs.Step.{book_of}
use Rattle.open_book.proofs.Currency.{three_long}
use Rattle.open_book.proofs.Opening.{open_refused, opened_by}
use Rattle.open_book.proofs.open_book.Goals as goal

pub returns-in_default : goal.returns-in_default
returns-in_default c =
    let a = c.args in
    rw c.reply.ensures (open_refused (book_of a.h a.opened.now a.ended.now) a.currency.now a.time.now c.in_default.ensures)

pub fresh-requires : goal.fresh-requires
fresh-requires c = three_long c.args.currency.now (fits_form _ (both _ _ c.in-Ok.ensures.0).0)

pub returns-in_default-fresh : goal.returns-in_default-fresh
returns-in_default-fresh c =
    let a = c.args in
    let instant : SFits w64 c.in-Ok.instant = search rules in
    rw c.reply-in_default-fresh.ensures
    (opened_by (book_of a.h a.opened.now a.ended.now) a.currency.now a.time.now c.in-Ok.ensures.0 _
    (sym c.in_default-fresh.is ∙ c.fresh.ensures ∙ rw (to_z-of_z instant, c.in-Ok.ensures.1)))

pub returns : goal.returns
unfolding zeros
returns c =
    let a = c.args in
    let instant : SFits w64 c.in-Ok.instant = search rules in
    rw (c.reply-2.ensures, c.fill.ensures.after (λ y e. search rules), c.fill-2.ensures.after (λ y e. search rules))
    (opened_by (book_of a.h a.opened.now a.ended.now) a.currency.now a.time.now c.in-Ok.ensures.0 _
    (sym c.in-Some.is ∙ c.fresh.ensures ∙ rw (to_z-of_z instant, c.in-Ok.ensures.1)))
