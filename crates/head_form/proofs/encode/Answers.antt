-- `encode`: the front, and the accounts behind it.
use Rattle.std.proofs.Common.{◌≡◌, ◌+◌, ◌*◌, List, length, take, ◌∙◌, ap, sym, refl, rules, arith}
use Rattle.std.proofs.lemmas.List.{take_all}
use Rattle.std.proofs.lemmas.List.Edits.{sets}
use Rattle.account.specs.declared.Account.{Account}
use Rattle.head_form.specs.Form.{accounts_bytes}
use Rattle.head_form.proofs.Stores.{accounts_more, head_stored, length_front}
use Rattle.head_form.proofs.encode.Goals as goal

pub loop-k-init : goal.loop-k-init
unfolding accounts_bytes
loop-k-init c = record { stored = refl; long = refl }

pub loop-k-preserved : goal.loop-k-preserved
loop-k-preserved c =
    let l = c.loop-k in
    let long : length c.args.h.accounts ≡ 32 = search rules in
    let place : length c.account_place.result ≡ 64 = search rules in
    let more = accounts_more c.put.new.out l.b c.put-in-loop-k.new.out c.args.h.accounts 32 l.k l.invariant.stored l.invariant.long
    (c.put-in-loop-k.ensures ∙ ap (sets l.b (32 + l.k * 64)) c.account_place.ensures) (ap length (sym c.account_place.ensures) ∙ place)
    (omega (arith, long)) in
    record { stored = more.0; long = more.1 }

pub returns : goal.returns
returns c =
    let l = c.loop-k in
    let h = c.args.h in
    let long : length h.accounts ≡ 32 = search rules in
    let currency : length h.currency ≡ 3 = search rules in
    let last : l.k ≡ 32 = omega arith in
    let all : take l.k h.accounts ≡ h.accounts = take_all l.k h.accounts (omega (arith, long)) in
    rw (l.invariant.stored, all, c.put.ensures, c.front.ensures) (
    head_stored c.args.b.now h c.requires (length_front h currency) (ap (λ (xs : List Account). length (accounts_bytes xs)) (sym all) ∙ l.invariant.long ∙ (rw last)))
