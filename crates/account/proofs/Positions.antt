-- Laws of positions: a value has one representation, so raising and lowering change the value by just the amount, and each takes the other
-- back. And what the code computes is that representation.
use Prim.Native.Nat.{ℕ, ◌+◌, ◌*◌, ◌<◌, ◌≤◌, ◌^◌}
use mathlib.Core.Path.{◌≡◌, refl, ap, ap₂, sym, ◌∙◌}
use mathlib.Core.Bool.{Bool, true, false, cond}
use native.Mathlib.Omega.{arith}
use lib.Dec.{ltb, eqb}
use lib.IntN.{ℤ, pos, negsuc, ◌+ℤ◌, ◌-ℤ◌, ◌*ℤ◌, +ℤ-neg_ℤ_cancel, -ℤ-+ℤ_cancel}
use lib.Signed.{lt_z, mag}
use mir.Syntax.{w64}
use mir.Facts.{to_z-of_z}
use mir.Val.{SFits, to_z, of_z}
use borrow.Author.Tests.{ltb-true, ltb-false, eqb-true, eqb-false}
use Rattle.std.specs.Prelude.{Some}
use Rattle.std.specs.declared.cmp.Ordering.TheVariants.{Less, Equal, Greater}
use Rattle.std.specs.Ordering.{nat_cmp, partial_le, partial_ordering_then, is_le, is_some_and}
use Rattle.amount.specs.declared.Amount.{Amount}
use Rattle.account.specs.declared.Position.{Position}
use Rattle.account.specs.Position.{worth, value, held, raised_by, lowered_by, within}
use Rattle.octets.specs.Integers.{up, dn}
use Rattle.octets.proofs.Integers as integers
use Rattle.octets.proofs.Integers.{sum_split, mul_split, neg_split', nonneg_split, difference_split}
use Rattle.account.proofs.Split.{sum_is, difference_is}

-- the value in naturals, of which omega can speak
pub value_split : (p : Position) → up (value p) + dn p.units * 10000 ≡ up p.units * 10000 + p.remainder + dn (value p)
unfolding value
value_split p = omega (arith, mul_split 10000 p.units, sum_split (p.units *ℤ pos 10000) (pos p.remainder))

-- what is held is worth what it was to be
pub value-held : (z : ℤ) → value (held z) ≡ z
unfolding held
value-held (pos n) = integers.same _ (pos n) (omega (arith, value_split (held (pos n))))
value-held (negsuc n) = integers.same _ (negsuc n) (omega (arith, value_split (held (negsuc n))))

pub held_remainder : (z : ℤ) → (held z).remainder < 10000
unfolding held
held_remainder (pos n) = omega arith
held_remainder (negsuc n) = omega arith

-- a value has one representation: remainders below a unit leave the units no choice
pub one_holding : (p r : Position) → p.remainder < 10000 → r.remainder < 10000 → value p ≡ value r → p ≡ r
one_holding p r hp hr e =
    let a = value_split p in
    let b = value_split r in
    let u = ap up e in
    let d = ap dn e in
    let units : p.units ≡ r.units = integers.same p.units r.units (omega arith) in
    let remainder : p.remainder ≡ r.remainder = omega (arith, ap up units, ap dn units) in
    ap₂ (λ (u : ℤ) (m : ℕ). record { units = u; remainder = m }) units remainder

pub held-is : (p : Position) (z : ℤ) → p.remainder < 10000 → value p ≡ z → p ≡ held z
held-is p z h e = one_holding p (held z) h (held_remainder z) (e ∙ sym (value-held z))

pub held-value : (p : Position) → p.remainder < 10000 → held (value p) ≡ p
held-value p h = sym (held-is p (value p) h refl)

-- raising and lowering change the value by just the amount, and each takes the other back
module _ (p : Position) (a : Amount) where
  pub value-raised : value (raised_by p a) ≡ value p +ℤ pos (worth a)
  value-raised = value-held (value p +ℤ pos (worth a))

  pub value-lowered : value (lowered_by p a) ≡ value p -ℤ pos (worth a)
  value-lowered = value-held (value p -ℤ pos (worth a))

  pub lowered-raised : p.remainder < 10000 → lowered_by (raised_by p a) a ≡ p
  lowered-raised h = rw (value-raised, +ℤ-neg_ℤ_cancel (value p) (pos (worth a))) (held-value p h)

  pub raised-lowered : p.remainder < 10000 → raised_by (lowered_by p a) a ≡ p
  raised-lowered h = rw (value-lowered, -ℤ-+ℤ_cancel (value p) (pos (worth a))) (held-value p h)

-- what the code computes: n units more, with the remainder and the amount carried into n and m; n units less, with m borrowed from n
module _ (p : Position) (a : Amount) (s : ℤ) (n m : ℕ) (hs : s ≡ to_z w64 n) (hp : mag p.units < 2 ^ 62) (hn : n < 2 ^ 62) (hm : m < 10000) where
  pub raised_is : n * 10000 + m ≡ p.remainder + worth a →
      record { units = to_z w64 (of_z w64 (to_z w64 (of_z w64 p.units) +ℤ to_z w64 (of_z w64 s))); remainder = m } ≡ raised_by p a
  raised_is h =
      let r : Position = record { units = p.units +ℤ pos n; remainder = m } in
      rw (hs, sum_is p.units n hp hn)
      (held-is r (value p +ℤ pos (worth a)) hm
      (integers.same (value r) (value p +ℤ pos (worth a))
      (omega (arith, value_split p, value_split r, sum_split p.units (pos n), sum_split (value p) (pos (worth a))))))

  pub lowered_is : n * 10000 + p.remainder ≡ worth a + m →
      record { units = to_z w64 (of_z w64 (to_z w64 (of_z w64 p.units) -ℤ to_z w64 (of_z w64 s))); remainder = m } ≡ lowered_by p a
  lowered_is h =
      let r : Position = record { units = p.units -ℤ pos n; remainder = m } in
      rw (hs, difference_is p.units n hp hn)
      (held-is r (value p -ℤ pos (worth a)) hm
      (integers.same (value r) (value p -ℤ pos (worth a))
      (omega (arith, value_split p, value_split r, difference_split p.units (pos n), difference_split (value p) (pos (worth a))))))

-- the limit, tested by the sign, then by the units and the remainders in one order
module _ (p : Position) (a : Amount) (fits : SFits w64 p.units) (h : p.remainder < 10000) where
  below : up p.units * 10000 + p.remainder ≤ worth a + dn p.units * 10000 → true ≡ within p a
  below h = sym (integers.le_yes (value p) (pos (worth a)) (omega (arith, value_split p)))

  above : worth a + dn p.units * 10000 < up p.units * 10000 + p.remainder → false ≡ within p a
  above h = sym (integers.le_no (value p) (pos (worth a)) (omega (arith, value_split p)))

  pub within_negative : lt_z (to_z w64 (of_z w64 p.units)) (pos 0) ≡ true → true ≡ within p a
  within_negative t = let sign = rw (to_z-of_z fits) at t in below (omega (arith, neg_split' p.units sign))

  pub within_order : (units : ℕ) → units ≡ of_z w64 (to_z w64 (of_z w64 p.units)) → lt_z (to_z w64 (of_z w64 p.units)) (pos 0) ≡ false →
      a.remainder < 10000 →
      partial_le {X = ℕ × ℕ} (λ x y. partial_ordering_then (Some (nat_cmp x.0 y.0)) (Some (nat_cmp x.1 y.1))) (units, p.remainder)
      (a.units, a.remainder) ≡ within p a
  within_order units u t k =
      by (ltb units a.units) refl (eqb units a.units) refl (ltb p.remainder a.remainder) refl (eqb p.remainder a.remainder) refl
    where
      sign : lt_z p.units (pos 0) ≡ false
      sign = rw (to_z-of_z fits) at t

      bits : (z : ℤ) → lt_z z (pos 0) ≡ false → of_z w64 z ≡ up z
      bits (pos n) e = refl
      bits (negsuc n) e = cc

      whole : (units ≡ up p.units) × (dn p.units ≡ 0)
      whole = (u ∙ ap (of_z w64) (to_z-of_z fits) ∙ bits p.units sign, (nonneg_split p.units sign).0)

      by : (l : Bool) → ltb units a.units ≡ l → (e : Bool) → eqb units a.units ≡ e → (m : Bool) → ltb p.remainder a.remainder ≡ m →
          (f : Bool) → eqb p.remainder a.remainder ≡ f → is_some_and is_le
          (partial_ordering_then (Some (cond l Less (cond e Equal Greater))) (Some (cond m Less (cond f Equal Greater)))) ≡ within p a
      by true i e j m q f r = below (omega (arith, ltb-true units a.units i, whole))
      by false i false j m q f r = above (omega (arith, ltb-false units a.units i, eqb-false units a.units j, whole))
      by false i true j true q f r = below (omega (arith, eqb-true units a.units j, ltb-true p.remainder a.remainder q, whole))
      by false i true j false q true r = below (omega (arith, eqb-true units a.units j, eqb-true p.remainder a.remainder r, whole))
      by false i true j false q false r =
          above (omega (arith, eqb-true units a.units j, ltb-false p.remainder a.remainder q, eqb-false p.remainder a.remainder r, whole))
