-- `decide_parties`: each check, with those before it not holding.
use Rattle.std.proofs.Common.{◌≡◌, true, false, not, length, rules, sym, ◌∙◌}
use Rattle.octets.specs.Parts.{same}
use Rattle.octets.proofs.Equal.{same_by_pairs}
use Rattle.octets.proofs.Walk.{length_unmap}
use Rattle.prepare.proofs.Places.{no_party, one_party}
use Rattle.prepare.proofs.decide_parties.Goals as goal

pub returns-in_default : goal.returns-in_default
returns-in_default c =
    let a = c.args in
    let long : length a.h.accounts ≡ 32 = search (rules, length_unmap) depth 8 in
    rw (no_party a.h c.requires.few long a.parties.payer.now (sym c.place_of.ensures ∙ c.in_default.is))

pub returns-in_default-place_of : goal.returns-in_default-place_of
returns-in_default-place_of c =
    let a = c.args in
    let long : length a.h.accounts ≡ 32 = search (rules, length_unmap) depth 8 in
    rw (
      (one_party a.h c.requires.few long a.parties.payer.now _ (sym c.place_of.ensures ∙ c.in-Some.is)).1,
      no_party a.h c.requires.few long a.parties.payee.now (sym c.place_of-2.ensures ∙ c.in_default-place_of.is),
    )

pub returns-then-eq : goal.returns-then-eq
returns-then-eq c =
    let a = c.args in
    let long : length a.h.accounts ≡ 32 = search (rules, length_unmap) depth 8 in
    rw (
      (one_party a.h c.requires.few long a.parties.payer.now _ (sym c.place_of.ensures ∙ c.in-Some.is)).1,
      (one_party a.h c.requires.few long a.parties.payee.now _ (sym c.place_of-2.ensures ∙ c.in-Some-place_of.is)).1,
      ← same_by_pairs a.parties.payer.now,
      ← c.eq.ensures,
      c.if-eq.true,
    )

pub returns-then-ne : goal.returns-then-ne
returns-then-ne c =
    let a = c.args in
    let long : length a.h.accounts ≡ 32 = search (rules, length_unmap) depth 8 in
    let apart : same a.parties.payer.now a.parties.payee.now ≡ false = rw (← same_by_pairs) (sym c.eq.ensures ∙ c.if-eq.false) in
    let other : not (same a.parties.currency.now a.h.currency) ≡ true = rw (← same_by_pairs, ← c.as_slice.ensures) (sym c.ne.ensures ∙ c.if-ne.true) in
    rw (
      (one_party a.h c.requires.few long a.parties.payer.now _ (sym c.place_of.ensures ∙ c.in-Some.is)).1,
      (one_party a.h c.requires.few long a.parties.payee.now _ (sym c.place_of-2.ensures ∙ c.in-Some-place_of.is)).1,
      apart,
      other,
    )

pub returns : goal.returns
returns c =
    let a = c.args in
    let long : length a.h.accounts ≡ 32 = search (rules, length_unmap) depth 8 in
    let payer = one_party a.h c.requires.few long a.parties.payer.now _ (sym c.place_of.ensures ∙ c.in-Some.is) in
    let payee = one_party a.h c.requires.few long a.parties.payee.now _ (sym c.place_of-2.ensures ∙ c.in-Some-place_of.is) in
    let apart : same a.parties.payer.now a.parties.payee.now ≡ false = rw (← same_by_pairs) (sym c.eq.ensures ∙ c.if-eq.false) in
    let own : not (same a.parties.currency.now a.h.currency) ≡ false = rw (← same_by_pairs, ← c.as_slice.ensures) (sym c.ne.ensures ∙ c.if-ne.false) in
    rw (payer.0, payee.0, payer.1, payee.1, apart, own)
