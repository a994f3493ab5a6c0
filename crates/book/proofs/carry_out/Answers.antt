-- `carry_out`: where 0 is decided, the record of the slot ends for the account that it names.
use Prim.Native.Nat.{ℕ}
use mathlib.Core.Path.{◌≡◌, ap, sym, ◌∙◌}
use mathlib.Core.List.{[]}
use native.Mathlib.Omega.{arith}
use lib.ListN.{length, get_or}
use Rattle.std.proofs.Common.{true, rules}
use Rattle.std.specs.Fn.{FnReturnsAt}
use Rattle.record.specs.Layout.{Row}
use Rattle.record.specs.Rows.{row}
use Rattle.record.proofs.Rows.{record_at, length-rows}
use Rattle.rules.specs.Answers.{is_done}
use Rattle.book.proofs.carry_out.Goals as goal

pub bounds-records-d : goal.bounds-records-d
bounds-records-d g c =
    omega (arith, ap (length {A = Row}) c.records.ensures, length-rows, c.requires.ends.slot (sym c.is_done.ensures ∙ c.if-not-is_done.false))

pub end_record-next-requires : goal.end_record-next-requires
end_record-next-requires g c =
    let a = c.args in
    let done : is_done a.d.answer ≡ true = sym c.is_done.ensures ∙ c.if-not-is_done.false in
    let says : FnReturnsAt g.P.Fn a.party (get_or c.records.result.now a.d.slot []) c.party-account.result = search rules in
    c.requires.ends.ends done _ (rw (c.records.ensures, record_at a.opened.now a.d.slot [] (c.requires.ends.slot done)) at says)

pub returns : goal.returns
returns g c = λ number by.
    let a = c.args in
    let done : is_done a.d.answer ≡ true = sym c.is_done.ensures ∙ c.if-not-is_done.false in
    let says : FnReturnsAt g.P.Fn a.party (get_or c.records.result.now a.d.slot []) c.party-account.result = search rules in
    let named : c.party-account.result ≡ number (row a.opened.now a.d.slot) =
    by _ _ (rw (c.records.ensures, record_at a.opened.now a.d.slot [] (c.requires.ends.slot done)) at says) in
    let ended = c.end_record-next.ensures in
    rw (c.reply-2.ensures, ended.0, ended.1, ended.2, named, done)
