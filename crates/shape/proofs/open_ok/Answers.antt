-- `open_ok`: what the slots hold, beside the head.
use Rattle.std.proofs.Common.{◌≡◌, ◌+◌, ◌^◌, ◌<◌, true, false, ◌∙◌, sym, ap, length, eqb, leb, pos, of_z, rules, arith}
use lib.Signed.{mag}
use mir.Syntax.{w128}
use borrow.Author.Tests.{le-leb, lt-leb}
use Rattle.octets.proofs.Tests.{and-false}
use Rattle.record.specs.Layout.{Row}
use Rattle.record.proofs.Rows.{length-rows}
use Rattle.account.specs.Head.{accounts_of}
use Rattle.rules.specs.Rules.{sameℤ}
use Rattle.shape.specs.Shape.{total}
use Rattle.shape.specs.Scan.{held_in_book}
use Rattle.shape.proofs.Together.{same_bits, out_of_balance, total_is, open_wrong, open_right}
use Rattle.shape.proofs.open_ok.Goals as goal

pub scan_open-requires : goal.scan_open-requires
scan_open-requires c = omega (arith, ap (length {A = Row}) c.records.ensures, length-rows, c.requires.0.long, c.requires.0.few)

pub returns-in_default : goal.returns-in_default
returns-in_default c =
    open_wrong c.args.h c.args.opened.now c.requires.0 c.requires.1
    (sym c.in_default.is ∙ c.scan_open.ensures.found ∙ ap (held_in_book c.args.h.count) c.records.ensures)

pub returns-in_default-total : goal.returns-in_default-total
returns-in_default-total c =
    let h = c.args.h in
    let held = c.in-Some.held in
    let right = open_right h c.args.opened.now c.requires.0 held
    (sym c.in-Some.is ∙ c.scan_open.ensures.found ∙ ap (held_in_book h.count) c.records.ensures) in
    let far = out_of_balance h c.requires.1 (sym c.in_default-total.is ∙ c.total.ensures) held.reserved in
    sym (and-false (leb (held.taken + h.finished) h.places)) ∙ (rw far at right)

pub returns-then-held-finished : goal.returns-then-held-finished
returns-then-held-finished c =
    let h = c.args.h in
    let held = c.in-Some.held in
    let right = open_right h c.args.opened.now c.requires.0 held
    (sym c.in-Some.is ∙ c.scan_open.ensures.found ∙ ap (held_in_book h.count) c.records.ensures) in
    let room : leb (held.taken + h.finished) h.places ≡ true =
    le-leb _ _ (rw (c.from-finished.ensures, c.from-places.ensures) at c.if-held-finished.true) in
    let small = rw c.in-Some.is at c.scan_open.ensures.small in
    let sum = c.in-Some-total.sum in
    let short : mag sum < 2 ^ 127 = search rules in
    let balanced : eqb (of_z w128 sum) (of_z w128 c.cast_signed.result) ≡ sameℤ (total (accounts_of h)) (pos held.reserved) =
    rw (c.cast_signed.ensures, ← total_is h sum (sym c.in-Some-total.is ∙ c.total.ensures))
    (same_bits sum held.reserved short (omega (arith, small))) in
    balanced ∙ (rw room at right)

pub returns-else-held-finished : goal.returns-else-held-finished
returns-else-held-finished c =
    let h = c.args.h in
    let held = c.in-Some.held in
    let right = open_right h c.args.opened.now c.requires.0 held
    (sym c.in-Some.is ∙ c.scan_open.ensures.found ∙ ap (held_in_book h.count) c.records.ensures) in
    let full : leb (held.taken + h.finished) h.places ≡ false =
    lt-leb _ _ (rw (c.from-finished.ensures, c.from-places.ensures) at c.if-held-finished.false) in
    rw (c.from-finished.ensures, c.from-places.ensures) (full ∙ (rw full at right))
