-- `same_values`: each test of the code by its law.
use Rattle.std.proofs.Common.{◌≡◌, ◌&&◌, refl, SFits, w64, rules, ◌∙◌}
use Rattle.octets.specs.Parts.{same}
use Rattle.octets.proofs.Equal.{same_by_pairs}
use Rattle.record.specs.Layout.{get, expiration_of, condition_field, packet_field}
use Rattle.rules.specs.Rules.{sameℤ}
use Rattle.prepare.proofs.Tests.{same_instant, values_same}
use Rattle.prepare.proofs.same_values.Goals.{then-eq, else-eq, then-eq-2, else-eq-2}
use Rattle.prepare.proofs.same_values.Goals as goal

pub returns-then-expiration_of-c : goal.returns-then-expiration_of-c
unfolding get
returns-then-expiration_of-c c =
    let r = c.args.row.now in
    let v = c.args.c in
    let with_condition : c.if-eq.value ≡ c.eq.result && same (get condition_field r) v.condition =
    elim c.if-eq.branch [
      | then-eq w ↦ rw (w.if-eq.true, ← same_by_pairs) (w.value-is ∙ w.eq-then-eq.ensures)
      | else-eq w ↦ rw w.if-eq.false (w.value-is ∙ w.if-eq.false)
    ] in
    let with_time : c.if-eq-2.value ≡ c.if-eq.value && sameℤ (expiration_of r) v.expiration =
    elim c.if-eq-2.branch [
      | then-eq-2 w ↦
          let held : SFits w64 w.expiration_of.result = search rules in
          let given : SFits w64 v.expiration = search rules in
          rw (w.if-eq-2.true, ← w.expiration_of.ensures) (w.value-is ∙ same_instant w.expiration_of.result v.expiration held given)
      | else-eq-2 w ↦ rw w.if-eq-2.false (w.value-is ∙ w.if-eq-2.false)
    ] in
    let packet : c.eq-then-expiration_of-c.result ≡ same (get packet_field r) v.packet = rw (← same_by_pairs) c.eq-then-expiration_of-c.ensures in
    rw (
      ← values_same r v c.amount_of.result c.amount_of.ensures c.requires.0 c.requires.1.remainder c.eq.ensures refl refl packet,
      ← with_condition,
      ← with_time,
      c.if-expiration_of-c.true,
    )

pub returns-else-expiration_of-c : goal.returns-else-expiration_of-c
unfolding get
returns-else-expiration_of-c c =
    let r = c.args.row.now in
    let v = c.args.c in
    let with_condition : c.if-eq.value ≡ c.eq.result && same (get condition_field r) v.condition =
    elim c.if-eq.branch [
      | then-eq w ↦ rw (w.if-eq.true, ← same_by_pairs) (w.value-is ∙ w.eq-then-eq.ensures)
      | else-eq w ↦ rw w.if-eq.false (w.value-is ∙ w.if-eq.false)
    ] in
    let with_time : c.if-eq-2.value ≡ c.if-eq.value && sameℤ (expiration_of r) v.expiration =
    elim c.if-eq-2.branch [
      | then-eq-2 w ↦
          let held : SFits w64 w.expiration_of.result = search rules in
          let given : SFits w64 v.expiration = search rules in
          rw (w.if-eq-2.true, ← w.expiration_of.ensures) (w.value-is ∙ same_instant w.expiration_of.result v.expiration held given)
      | else-eq-2 w ↦ rw w.if-eq-2.false (w.value-is ∙ w.if-eq-2.false)
    ] in
    rw (
      ← values_same r v c.amount_of.result c.amount_of.ensures c.requires.0 c.requires.1.remainder c.eq.ensures refl refl refl,
      ← with_condition,
      ← with_time,
      c.if-expiration_of-c.false,
    )
