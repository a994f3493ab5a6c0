-- The fields of a prepare in form, parties and currency first, and the lengths and the range of the values that are read.
use Prim.Native.Nat.{ℕ, ◌<◌, ◌^◌}
use mathlib.Core.Path.{◌≡◌, refl, sym, ap, subst⁻¹}
use mathlib.Core.Bool.{Bool, true, false, ◌&&◌}
use mathlib.Core.List.{List}
use native.Mathlib.Omega.{arith}
use lib.ListN.{length}
use Rattle.octets.proofs.Built.{length-build}
use Rattle.octets.proofs.Tests.{and-false, both}
use Rattle.form.specs.Regex.{judge}
use Rattle.form.specs.Listings.{amount_form, id_form, date_time_form, condition_form, packet_form, name_form, currency_form}
use Rattle.amount.specs.declared.Amount.{Amount}
use Rattle.amount.specs.Amount.{ten_thousandths, amount_of}
use Rattle.amount.proofs.Theorems as amounts
use Rattle.uuid_text.specs.Id.{id_of, byte_at}
use Rattle.form.specs.Verdict.{Verdict, value_by}
use Rattle.base64url.specs.Condition.{read_condition}
use Rattle.base64url.proofs.Theorems.{held}
use Rattle.sha256.proofs.Facts.{length-sha256}
use Rattle.account.specs.Position.{InRange}
use Rattle.record.specs.declared.Content.{Content}
use Rattle.record.proofs.Fields.{Sized}
use Rattle.rules.specs.Calls.{PrepareText, prepare, is_of, in_form, condition_of}
use Rattle.rules.proofs.Fields.{fits_form, amount-value}
use Rattle.prepare.specs.Inner.{names_fit, texts_fit, values_in}

-- an amount in form is in range
amount_range : (s : List ℕ) → is_of amount_form s ≡ true → InRange (amount_of (ten_thousandths s))
amount_range s e =
    let r = (amounts.form s).0 (fits_form (judge amount_form s) e) in
    let held = (amount-value s r.0 r.1).1 in
    let units : (amount_of (ten_thousandths s)).units < 10 ^ 18 = subst⁻¹ (λ (a : Amount). a.units < 10 ^ 18) held r.2.0 in
    record { units = omega (arith, units); remainder = omega arith }

-- the fields in form, in the order of the tests
regroup : (i p q c : Bool) (rest : Bool) → i && (p && (q && (c && rest))) ≡ (p && (q && c)) && (i && rest)
regroup false p q c rest = sym (and-false (p && (q && c)))
regroup true false q c rest = refl
regroup true true false c rest = refl
regroup true true true c rest = refl

pub in_form_lem : (p : PrepareText) → in_form (prepare p)
    ≡ names_fit p.payer p.payee p.currency && texts_fit p.id p.amount p.condition p.expiration p.packet
in_form_lem p = regroup (is_of id_form p.id) (is_of name_form p.payer) (is_of name_form p.payee) (is_of currency_form p.currency)
    (is_of amount_form p.amount
    && (is_of condition_form p.condition && (is_of date_time_form p.expiration && is_of packet_form p.packet)))

pub all_five : (i a k e t : Bool) → i && (a && (k && (e && t))) ≡ true →
    (i ≡ true) × (a ≡ true) × (k ≡ true) × (e ≡ true) × (t ≡ true)
all_five i a k e t h =
    let r = both i (a && (k && (e && t))) h in
    let s = both a (k && (e && t)) r.1 in
    let u = both k (e && t) s.1 in
    let v = both e t u.1 in
    (r.0, s.0, u.0, v.0, v.1)

pub content_same : (c d : Content) → c.id ≡ d.id → c.amount ≡ d.amount → c.condition ≡ d.condition → c.expiration ≡ d.expiration →
    c.packet ≡ d.packet → c ≡ d
content_same c d p q r s t = λ i. record { id = p i; amount = q i; condition = r i; expiration = s i; packet = t i }

-- the values have the lengths that the record has for them
id_long : (s : List ℕ) → length (id_of s) ≡ 16
unfolding id_of
id_long s = length-build (byte_at s) 16

condition_long : (s : List ℕ) → is_of condition_form s ≡ true → length (condition_of s) ≡ 32
unfolding read_condition
condition_long s e = (held s (condition_of s) (ap (λ (v : Verdict). value_by v (condition_of s)) (fits_form (judge condition_form s) e))).0

module _ (id amount condition expiration packet : List ℕ) (e : texts_fit id amount condition expiration packet ≡ true) where
  each : (is_of id_form id ≡ true) × (is_of amount_form amount ≡ true) × (is_of condition_form condition ≡ true)
      × (is_of date_time_form expiration ≡ true) × (is_of packet_form packet ≡ true)
  each = all_five (is_of id_form id) (is_of amount_form amount) (is_of condition_form condition) (is_of date_time_form expiration)
      (is_of packet_form packet) e

  pub values_sized : Sized (values_in id amount condition expiration packet)
  values_sized = record {
    id = id_long id;
    condition = condition_long condition each.2;
    packet = length-sha256 packet;
  }

  pub values_ranged : InRange (values_in id amount condition expiration packet).amount
  values_ranged = amount_range amount each.1

-- so the values that are read are in range
pub ranged : (id amount condition expiration packet : List ℕ) (names : Bool) (c : Content) →
    (names && texts_fit id amount condition expiration packet ≡ true) × (c ≡ values_in id amount condition expiration packet) → InRange c.amount
ranged id amount condition expiration packet names c f =
    rw f.1 (values_ranged id amount condition expiration packet (both names (texts_fit id amount condition expiration packet) f.0).1)
