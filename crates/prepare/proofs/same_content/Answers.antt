-- `same_content`: the parties' accounts are in use, so their names are the head's.
use Rattle.std.proofs.Common.{◌≡◌, ◌&&◌, ◌∙◌}
use Rattle.account.specs.Head.{named, account_at}
use Rattle.record.specs.Layout.{num, payer_field, payee_field}
use Rattle.prepare.proofs.Tests.{content_by_parts}
use Rattle.prepare.proofs.same_content.Goals.{then-is_named, else-is_named}
use Rattle.prepare.proofs.same_content.Goals as goal

pub returns-then-is_named-2 : goal.returns-then-is_named-2
returns-then-is_named-2 c =
    let a = c.args in
    let r = a.row.now in
    let payer = named a.parties.payer.now (account_at a.h (num payer_field r)) in
    let payee = named a.parties.payee.now (account_at a.h (num payee_field r)) in
    let first : c.is_named.result ≡ payer = rw (← c.payer_of.ensures) c.is_named.ensures in
    let parties : c.if-is_named.value ≡ payer && payee =
    elim c.if-is_named.branch [
      | then-is_named w ↦ rw (← first, w.if-is_named.true, ← w.payee_of.ensures) (w.value-is ∙ w.is_named-then-is_named.ensures)
      | else-is_named w ↦ rw (← first, w.if-is_named.false) (w.value-is ∙ w.if-is_named.false)
    ] in
    rw (← content_by_parts a.h r a.c a.parties.payer.now a.parties.payee.now c.requires, ← parties, c.if-is_named-2.true) c.same_values.ensures

pub returns-else-is_named-2 : goal.returns-else-is_named-2
returns-else-is_named-2 c =
    let a = c.args in
    let r = a.row.now in
    let payer = named a.parties.payer.now (account_at a.h (num payer_field r)) in
    let payee = named a.parties.payee.now (account_at a.h (num payee_field r)) in
    let first : c.is_named.result ≡ payer = rw (← c.payer_of.ensures) c.is_named.ensures in
    let parties : c.if-is_named.value ≡ payer && payee =
    elim c.if-is_named.branch [
      | then-is_named w ↦ rw (← first, w.if-is_named.true, ← w.payee_of.ensures) (w.value-is ∙ w.is_named-then-is_named.ensures)
      | else-is_named w ↦ rw (← first, w.if-is_named.false) (w.value-is ∙ w.if-is_named.false)
    ] in
    rw (← content_by_parts a.h r a.c a.parties.payer.now a.parties.payee.now c.requires, ← parties, c.if-is_named-2.false)
