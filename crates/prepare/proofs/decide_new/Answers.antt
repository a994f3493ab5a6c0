-- `decide_new`: each check, with those before it not holding.
use Rattle.std.proofs.Common.{◌≡◌, length, ap, rules, arith, sym, ◌∙◌, SFits, w64, Fits, w16, add-one}
use lib.ListN.{length-take}
use Rattle.octets.specs.Lists.{count}
use Rattle.octets.proofs.Walk.{count-le}
use Rattle.record.specs.Layout.{Row}
use Rattle.record.specs.Rows.{rows}
use Rattle.record.proofs.Rows.{length-rows, first_rows}
use Rattle.shape.specs.Reading.{is_taken}
use Rattle.prepare.specs.Inner.{taken_in, new_decision}
use Rattle.prepare.proofs.Fresh.{compared, none_free, one_free, expired, full, filled, capped, accepted}
use Rattle.prepare.proofs.decide_new.Goals as goal

pub returns-in_err-accounts : goal.returns-in_err-accounts
unfolding new_decision
returns-in_err-accounts c = rw c.in_err-accounts.was (search rules)

pub returns-then-c-h : goal.returns-then-c-h
returns-then-c-h c =
    let a = c.args in
    let given : SFits w64 a.c.expiration = search rules in
    let clock : SFits w64 a.h.time = search rules in
    rw c.in_ok-accounts.was (expired a.h a.opened.now a.c c.in_ok-accounts.accounts (compared a.c.expiration a.h.time given clock c.if-c-h.true))

pub slice_bounds-slots-end : goal.slice_bounds-slots-end
slice_bounds-slots-end c =
    omega (arith, c.from.ensures, ap (length {A = Row}) c.records.ensures, length-rows, length-take {A = Row}, c.requires.0)

pub returns-in_default : goal.returns-in_default
returns-in_default c =
    let a = c.args in
    let given : SFits w64 a.c.expiration = search rules in
    let clock : SFits w64 a.h.time = search rules in
    let free = rw (c.records.ensures, c.from.ensures) at c.free_slot.ensures in
    rw c.in_ok-accounts.was
    (full a.h a.opened.now a.c c.in_ok-accounts.accounts (compared a.c.expiration a.h.time given clock c.if-c-h.false)
    (none_free a.h a.opened.now c.requires.0 (sym free ∙ c.in_default.is)))

pub overflow_add-records : goal.overflow_add-records
overflow_add-records c =
    let a = c.args in
    let many : c.taken.result ≡ taken_in a.h a.opened.now =
    rw (c.records.ensures, c.from.ensures) at c.taken.ensures ∙ ap (count is_taken) (first_rows a.opened.now a.h.slots c.requires.0) in
    let few : Fits w16 a.h.slots = search rules in
    let ended : Fits w16 a.h.finished = search rules in
    let left = count-le is_taken (rows a.h.slots a.opened.now) in
    record { fits = omega (arith, many, few.fits, ended.fits, length-rows, c.from-2.ensures) }

pub returns-then-from-records : goal.returns-then-from-records
returns-then-from-records c =
    let a = c.args in
    let given : SFits w64 a.c.expiration = search rules in
    let clock : SFits w64 a.h.time = search rules in
    let free = rw (c.records.ensures, c.from.ensures) at c.free_slot.ensures in
    let many : c.taken.result ≡ taken_in a.h a.opened.now =
    rw (c.records.ensures, c.from.ensures) at c.taken.ensures ∙ ap (count is_taken) (first_rows a.opened.now a.h.slots c.requires.0) in
    rw c.in_ok-accounts.was
    (filled a.h a.opened.now a.c c.in_ok-accounts.accounts (compared a.c.expiration a.h.time given clock c.if-c-h.false)
    (one_free a.h a.opened.now c.requires.0 c.in-Some.slot (sym free ∙ c.in-Some.is)).1
    (omega (arith, many, c.from-2.ensures, c.from-3.ensures, c.if-from-records.true)))

pub returns-then-passes_cap : goal.returns-then-passes_cap
returns-then-passes_cap c =
    let a = c.args in
    let given : SFits w64 a.c.expiration = search rules in
    let clock : SFits w64 a.h.time = search rules in
    let free = rw (c.records.ensures, c.from.ensures) at c.free_slot.ensures in
    let many : c.taken.result ≡ taken_in a.h a.opened.now =
    rw (c.records.ensures, c.from.ensures) at c.taken.ensures ∙ ap (count is_taken) (first_rows a.opened.now a.h.slots c.requires.0) in
    rw c.in_ok-accounts.was
    (capped a.h a.opened.now a.c c.in_ok-accounts.accounts (compared a.c.expiration a.h.time given clock c.if-c-h.false)
    (one_free a.h a.opened.now c.requires.0 c.in-Some.slot (sym free ∙ c.in-Some.is)).1
    (omega (arith, many, c.from-2.ensures, c.from-3.ensures, c.if-from-records.false))
    (sym c.passes_cap.ensures ∙ c.if-passes_cap.true))

pub returns : goal.returns
returns c =
    let a = c.args in
    let given : SFits w64 a.c.expiration = search rules in
    let clock : SFits w64 a.h.time = search rules in
    let free = rw (c.records.ensures, c.from.ensures) at c.free_slot.ensures in
    let many : c.taken.result ≡ taken_in a.h a.opened.now =
    rw (c.records.ensures, c.from.ensures) at c.taken.ensures ∙ ap (count is_taken) (first_rows a.opened.now a.h.slots c.requires.0) in
    let found = one_free a.h a.opened.now c.requires.0 c.in-Some.slot (sym free ∙ c.in-Some.is) in
    rw (c.in_ok-accounts.was, found.0, many, c.from-2.ensures, add-one)
    (accepted a.h a.opened.now a.c c.in_ok-accounts.accounts (compared a.c.expiration a.h.time given clock c.if-c-h.false) found.1
    (omega (arith, many, c.from-2.ensures, c.from-3.ensures, c.if-from-records.false))
    (sym c.passes_cap.ensures ∙ c.if-passes_cap.false))
