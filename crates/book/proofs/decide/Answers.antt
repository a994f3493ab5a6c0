-- `decide`: where the search finds the record, and what is decided on it.
use Prim.Native.Nat.{ℕ}
use mathlib.Core.Path.{◌≡◌, sym, ◌∙◌}
use Rattle.std.proofs.Common.{true, false, rules}
use Rattle.std.specs.Prelude.{Some, None}
use Rattle.std.specs.Fn.{FnReturnsAt}
use Rattle.book.specs.declared.Place.TheVariants.{Opened}
use Rattle.book.specs.Step.{book_of, where_is}
use Rattle.book.proofs.Decisions.{in_books, inside_found, payee_found, decided_nowhere, decided_other, decided_payee}
use Rattle.book.proofs.decide.Goals as goal
use Rattle.book.proofs.decide.Goals.{in-Opened, in-Ended}

pub find-requires : goal.find-requires
find-requires g c = in_books _ c.requires.sound

pub returns-in_default : goal.returns-in_default
returns-in_default g c = λ rule by.
    let a = c.args in
    let none : c.find.result ≡ None = search rules in
    let nowhere : where_is (book_of a.h a.opened.now a.ended.now) a.id ≡ None = rw (← c.find.ensures) none in
    decided_nowhere _ c.requires.sound _ _ rule by.ends _ nowhere c.decided.ensures

pub record_at-row-requires : goal.record_at-row-requires
record_at-row-requires g c = inside_found _ c.requires.sound c.args.id _ (sym c.find.ensures ∙ c.in-Some.is)

pub is_payee-requires : goal.is_payee-requires
is_payee-requires g c =
    rw c.record_at-row.ensures (payee_found _ c.requires.sound c.args.id _ (sym c.find.ensures ∙ c.in-Some.is))

pub returns-then-not-is_payee : goal.returns-then-not-is_payee
returns-then-not-is_payee g c = λ rule by.
    let a = c.args in
    let held : where_is (book_of a.h a.opened.now a.ended.now) a.id ≡ Some c.in-Some.place = sym c.find.ensures ∙ c.in-Some.is in
    let other : c.is_payee.result ≡ false = search rules in
    decided_other _ c.requires.sound _ a.id rule by.ends _ held _ (sym (rw c.record_at-row.ensures at c.is_payee.ensures) ∙ other)
    (c.decided-then-not-is_payee.ensures ∙ rw (c.number_of-mark.ensures, c.record_at-row.ensures))

pub returns : goal.returns
returns g c = λ rule by.
    let a = c.args in
    let held : where_is (book_of a.h a.opened.now a.ended.now) a.id ≡ Some c.in-Some.place = sym c.find.ensures ∙ c.in-Some.is in
    let payee : c.is_payee.result ≡ true = search rules in
    let says : FnReturnsAt g.R.Fn a.by_state c.record_at-row.result.now c.by_state.result = search rules in
    let slot : (k : ℕ) → c.in-Some.place ≡ Opened k → c.match-place.slot ≡ k = λ k e.
    elim c.match-place.branch [ in-Opened w ↦ cc | in-Ended w ↦ cc ] in
    decided_payee _ c.requires.sound _ a.id rule by.ends _ held _ (sym (rw c.record_at-row.ensures at c.is_payee.ensures) ∙ payee)
    _ _ (by.answer _ _ says ∙ rw c.record_at-row.ensures) slot
    (c.decided-2.ensures ∙ rw (c.number_of-mark.ensures, c.record_at-row.ensures))
