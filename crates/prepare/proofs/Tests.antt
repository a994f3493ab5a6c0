-- The tests of the code against those of the rules: amounts by their parts, instants by their bits, the cap by its contrary.
use Prim.Native.Nat.{ℕ, ◌+◌, ◌*◌, ◌<◌}
use mathlib.Core.Path.{◌≡◌, refl, ap, sym, ◌∙◌}
use mathlib.Core.Bool.{Bool, true, false, not, ◌&&◌}
use mathlib.Core.List.{List}
use native.Mathlib.Omega.{arith}
use lib.Dec.{eqb, leb, ltb}
use lib.IntN.{ℤ, pos, negsuc, ◌+ℤ◌}
use lib.Signed.{le_z, lt_z}
use mir.Facts.{to_z-of_z}
use mir.Syntax.{w64}
use mir.Val.{SFits, of_z, to_z}
use borrow.Author.Tests.{eqb-true, eqb-false, eq-eqb, ne_eqb, leb-true, leb-false, lt-ltb, le-ltb}
use Rattle.octets.specs.Parts.{same}
use Rattle.octets.specs.Integers.{up, dn}
use Rattle.octets.proofs.Integers as integers
use Rattle.octets.proofs.Integers.{le_split, le_yes}
use Rattle.octets.proofs.Tests.{and_assoc, both}
use Rattle.amount.specs.declared.Amount.{Amount}
use Rattle.account.specs.declared.Position.{Position}
use Rattle.account.specs.declared.Head.{Head}
use Rattle.account.specs.Head.{named, account_at}
use Rattle.account.specs.Position.{worth, value, raised_by, within}
use Rattle.account.proofs.Positions.{value-raised}
use Rattle.record.specs.declared.Content.{Content}
use Rattle.record.specs.Layout.{Row, get, num, amount_of, expiration_of, payer_field, payee_field, condition_field, packet_field, units_field, remainder_field}
use Rattle.rules.specs.Rules.{sameℤ, same_content}
use Rattle.shape.specs.Reading.{names_of, transfer_of}
use Rattle.shape.proofs.Names.{name_at}
use Rattle.prepare.specs.Inner.{said, same_values, Comparable}

-- amounts are equal exactly if their units and remainders are, as both remainders are below a unit
pub same-amount : (u m v n : ℕ) → m < 10000 → n < 10000 → eqb u v && eqb m n ≡ eqb (u * 10000 + m) (v * 10000 + n)
same-amount u m v n h k = go (eqb u v) (eqb m n) refl refl
  where
    go : (s t : Bool) → eqb u v ≡ s → eqb m n ≡ t → s && t ≡ eqb (u * 10000 + m) (v * 10000 + n)
    go true true e f =
        let p = eqb-true u v e in
        let q = eqb-true m n f in
        sym (eq-eqb (u * 10000 + m) (v * 10000 + n) (omega arith))
    go false t e f =
        sym (ne_eqb _ _ (λ (q : u * 10000 + m ≡ v * 10000 + n). eqb-false u v e (omega arith)))
    go true false e f =
        sym (ne_eqb _ _ (λ (q : u * 10000 + m ≡ v * 10000 + n). eqb-false m n f (omega (arith, eqb-true u v e))))

-- equal instants have equal bits, and instants with equal bits are equal
pub same_instant : (x y : ℤ) → SFits w64 x → SFits w64 y → eqb (of_z w64 x) (of_z w64 y) ≡ sameℤ x y
same_instant x y h k = go (eqb (of_z w64 x) (of_z w64 y)) (sameℤ x y) refl refl
  where
    equal : x ≡ y → sameℤ x y ≡ true
    equal e =
        let u = ap up e in
        let d = ap dn e in
        rw (le_yes x y (omega arith), le_yes y x (omega arith))

    go : (s t : Bool) → eqb (of_z w64 x) (of_z w64 y) ≡ s → sameℤ x y ≡ t → s ≡ t
    go true t e f = sym (equal (sym (to_z-of_z h) ∙ ap (to_z w64) (eqb-true (of_z w64 x) (of_z w64 y) e) ∙ to_z-of_z k)) ∙ f
    go false false e f = refl
    go false true e f =
        let p = both (le_z x y) (le_z y x) f in
        let q : x ≡ y = integers.same x y (omega (arith, le_split x y p.0, le_split y x p.1)) in
        absurd (eqb-false (of_z w64 x) (of_z w64 y) e (ap (of_z w64) q))

-- the values of a record against those of a prepare, each test by its own law
pub values_same : (r : Row) (c : Content) {t k e p : Bool} (a : Amount) → (a.units ≡ num units_field r) × (a.remainder ≡ num remainder_field r) →
    num remainder_field r < 10000 → c.amount.remainder < 10000 →
    t ≡ (eqb a.units c.amount.units && eqb a.remainder c.amount.remainder) → k ≡ same (get condition_field r) c.condition →
    e ≡ sameℤ (expiration_of r) c.expiration → p ≡ same (get packet_field r) c.packet → ((t && k) && e) && p ≡ same_values r c
values_same r c a f h i t k e p =
    rw (
      t,
      k,
      e,
      p,
      f.0,
      f.1,
      same-amount (num units_field r) (num remainder_field r) c.amount.units c.amount.remainder h i,
      and_assoc (eqb (amount_of r) (worth c.amount) && same (get condition_field r) c.condition),
      and_assoc (eqb (amount_of r) (worth c.amount)),
    )

-- the contents compared, by the parties' accounts
pub content_by_parts : (h : Head) (r : Row) (c : Content) (payer payee : List ℕ) → Comparable h r c →
    (named payer (account_at h (num payer_field r)) && named payee (account_at h (num payee_field r))) && same_values r c
    ≡ same_content (transfer_of (names_of h) r).content (said payer payee c)
unfolding transfer_of
content_by_parts h r c payer payee f =
    and_assoc (named payer (account_at h (num payer_field r))) (named payee (account_at h (num payee_field r))) (same_values r c)
    ∙ rw (name_at h (num payer_field r) f.body.payer, name_at h (num payee_field r) f.body.payee)

-- more than the cap is not at most the cap
not-leb : (a b : ℕ) → not (leb a b) ≡ ltb b a
not-leb a b = go (leb a b) refl
  where
    go : (t : Bool) → leb a b ≡ t → not t ≡ ltb b a
    go true e = sym (le-ltb b a (leb-true a b e))
    go false e = sym (lt-ltb b a (leb-false a b e))

pub not_at_most : (z w : ℤ) → not (le_z z w) ≡ lt_z w z
not_at_most (pos a) (pos b) = not-leb a b
not_at_most (pos a) (negsuc b) = refl
not_at_most (negsuc a) (pos b) = refl
not_at_most (negsuc a) (negsuc b) = not-leb b a

pub above_cap : (p : Position) (a cap : Amount) → not (within (raised_by p a) cap) ≡ lt_z (pos (worth cap)) (value p +ℤ pos (worth a))
above_cap p a cap = not_at_most (value (raised_by p a)) (pos (worth cap)) ∙ ap (lt_z (pos (worth cap))) (value-raised p a)
