-- `joined`: each check, with those before it not holding.
use Rattle.std.proofs.Common.{◌≡◌, true, false, ltb, length, rules, sym, ◌∙◌}
use borrow.Author.Tests.{le-leb, lt-leb}
use Rattle.octets.proofs.Walk.{length_unmap}
use Rattle.account.specs.Position.{worth}
use Rattle.account.specs.Head.{place_of}
use Rattle.rules.specs.Rules.{highest_cap}
use Rattle.join.proofs.Joining.{name_found}
use Rattle.join.proofs.joined.Goals as goal

pub returns-then-is_some : goal.returns-then-is_some
returns-then-is_some c =
    let a = c.args in
    let long : length a.h.accounts ≡ 32 = search (rules, length_unmap) depth 8 in
    let low : ltb highest_cap (worth a.cap) ≡ false = sym c.too_high.ensures ∙ c.if-too_high.false in
    let held : ltb (place_of a.h a.name.now) a.h.count ≡ true =
    sym (name_found a.h a.name.now c.requires.0.few long) ∙ rw (← c.place_of.ensures) (sym c.is_some.ensures ∙ c.if-is_some.true) in
    rw (low, held)

pub returns-then-h-ge-MOST_ACCOUNTS : goal.returns-then-h-ge-MOST_ACCOUNTS
returns-then-h-ge-MOST_ACCOUNTS c =
    let a = c.args in
    let long : length a.h.accounts ≡ 32 = search (rules, length_unmap) depth 8 in
    let low : ltb highest_cap (worth a.cap) ≡ false = sym c.too_high.ensures ∙ c.if-too_high.false in
    let held : ltb (place_of a.h a.name.now) a.h.count ≡ false =
    sym (name_found a.h a.name.now c.requires.0.few long) ∙ rw (← c.place_of.ensures) (sym c.is_some.ensures ∙ c.if-is_some.false) in
    rw (low, held, le-leb 32 a.h.count c.if-h-ge-MOST_ACCOUNTS.true)

pub returns : goal.returns
returns c =
    let a = c.args in
    let long : length a.h.accounts ≡ 32 = search (rules, length_unmap) depth 8 in
    let low : ltb highest_cap (worth a.cap) ≡ false = sym c.too_high.ensures ∙ c.if-too_high.false in
    let held : ltb (place_of a.h a.name.now) a.h.count ≡ false =
    sym (name_found a.h a.name.now c.requires.0.few long) ∙ rw (← c.place_of.ensures) (sym c.is_some.ensures ∙ c.if-is_some.false) in
    rw (low, held, lt-leb 32 a.h.count c.if-h-ge-MOST_ACCOUNTS.false, c.with_account.ensures)
