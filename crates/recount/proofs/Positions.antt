-- A position as the difference of two sums: how it moves with them, and when it is within a cap.
use Prim.Native.Nat.{ℕ, suc, ◌+◌, ◌-◌, ◌≤◌}
use mathlib.Core.Path.{◌≡◌, refl, sym}
use mathlib.Core.Bool.{Bool, true, false, cond, ◌&&◌}
use mathlib.Core.List.{List, [], ◌∷◌}
use native.Mathlib.Omega.{arith}
use lib.Dec.{eqb, ltb}
use lib.IntN.{ℤ, pos, negsuc, sub_ℕ, neg_ℤ, ◌+ℤ◌, ◌-ℤ◌}
use lib.Signed.{le_z, lt_z}
use borrow.Author.Tests.{ltb-true, ltb-false, le-leb, eqb-true, eqb-false, eq-eqb, ne_eqb}
use Rattle.octets.specs.Lists.{sum}
use Rattle.octets.specs.Parts.{same}
use Rattle.octets.proofs.Integers.{sum_split, negate_split, le_split, le_yes}
use Rattle.octets.specs.Integers.{up, dn}
use Rattle.octets.proofs.Integers as integers
use Rattle.rules.specs.View.{Transfer}
use Rattle.ledger.specs.Ledger.{positioned, moved_at}
use Rattle.recount.specs.Recount.{Grant, sent, received, position_of}
use Rattle.recount.proofs.Agrees.{member_by}

sub_split : (a b : ℕ) → up (sub_ℕ a b) + b ≡ a + dn (sub_ℕ a b)
sub_split a b = by (ltb a b) refl
  where
    by : (t : Bool) → ltb a b ≡ t → up (cond t (negsuc (b - suc a)) (pos (a - b))) + b ≡ a + dn (cond t (negsuc (b - suc a)) (pos (a - b)))
    by true e = omega (arith, ltb-true a b e)
    by false e = omega (arith, ltb-false a b e)

-- a difference that is the same, one raised, one lowered
sub_same : (o i o' i' : ℕ) → o + i' ≡ o' + i → sub_ℕ o i ≡ sub_ℕ o' i'
sub_same o i o' i' h = integers.same (sub_ℕ o i) (sub_ℕ o' i') (omega (arith, sub_split o i, sub_split o' i'))

sub-raised : (o i o' i' x : ℕ) → o + x + i' ≡ o' + i → sub_ℕ o i +ℤ pos x ≡ sub_ℕ o' i'
sub-raised o i o' i' x h =
    integers.same (sub_ℕ o i +ℤ pos x) (sub_ℕ o' i') (omega (arith, sum_split (sub_ℕ o i) (pos x), sub_split o i, sub_split o' i'))

sub-lowered : (o i o' i' x : ℕ) → o + i' ≡ o' + (i + x) → sub_ℕ o i -ℤ pos x ≡ sub_ℕ o' i'
sub-lowered o i o' i' x h =
    integers.same (sub_ℕ o i -ℤ pos x) (sub_ℕ o' i')
    (omega (arith, sum_split (sub_ℕ o i) (neg_ℤ (pos x)), negate_split (pos x), sub_split o i, sub_split o' i'))

module _ (L L' : List Transfer) (key : List ℕ) where
  pub position-same : sum (sent key) L + sum (received key) L' ≡ sum (sent key) L' + sum (received key) L →
      position_of L key ≡ position_of L' key
  unfolding position_of
  position-same h = sub_same (sum (sent key) L) (sum (received key) L) (sum (sent key) L') (sum (received key) L') h

  pub position-raised : (x : ℕ) → sum (sent key) L + x + sum (received key) L' ≡ sum (sent key) L' + sum (received key) L →
      position_of L key +ℤ pos x ≡ position_of L' key
  unfolding position_of
  position-raised x h = sub-raised (sum (sent key) L) (sum (received key) L) (sum (sent key) L') (sum (received key) L') x h

  pub position-lowered : (x : ℕ) → sum (sent key) L + sum (received key) L' ≡ sum (sent key) L' + (sum (received key) L + x) →
      position_of L key -ℤ pos x ≡ position_of L' key
  unfolding position_of
  position-lowered x h = sub-lowered (sum (sent key) L) (sum (received key) L) (sum (sent key) L') (sum (received key) L') x h

module _ (L : List Transfer) (key : List ℕ) (cap : ℕ) where
  -- within a cap: what was sent is no more than the cap and what was received
  pub within : sum (sent key) L ≤ cap + sum (received key) L → le_z (position_of L key) (pos cap) ≡ true
  unfolding position_of
  within h =
      le_yes (sub_ℕ (sum (sent key) L) (sum (received key) L)) (pos cap)
      (omega (arith, sub_split (sum (sent key) L) (sum (received key) L)))

  pub within-sums : le_z (position_of L key) (pos cap) ≡ true → sum (sent key) L ≤ cap + sum (received key) L
  unfolding position_of
  within-sums h =
      omega (
        arith,
        le_split (sub_ℕ (sum (sent key) L) (sum (received key) L)) (pos cap) h,
        sub_split (sum (sent key) L) (sum (received key) L),
      )

-- "10 if position + amount > cap"
not_over : (z : ℤ) (c : ℕ) → lt_z (pos c) z ≡ false → le_z z (pos c) ≡ true
not_over (pos a) c e = le-leb a c (ltb-false c a e)
not_over (negsuc a) c e = refl

pub room_left : (L : List Transfer) (key : List ℕ) (cap x : ℕ) → lt_z (pos cap) (position_of L key +ℤ pos x) ≡ false →
    sum (sent key) L + x ≤ cap + sum (received key) L
unfolding position_of
room_left L key cap x e =
    let z = sub_ℕ (sum (sent key) L) (sum (received key) L) in
    omega (
      arith,
      le_split (z +ℤ pos x) (pos cap) (not_over (z +ℤ pos x) cap e),
      sum_split z (pos x),
      sub_split (sum (sent key) L) (sum (received key) L),
    )

-- a comparison may be read either way
eqb_sym : (x y : ℕ) → eqb x y ≡ eqb y x
eqb_sym x y = by (eqb x y) refl
  where
    by : (t : Bool) → eqb x y ≡ t → t ≡ eqb y x
    by true e = sym (eq-eqb y x (sym (eqb-true x y e)))
    by false e = sym (ne_eqb y x (λ p. eqb-false x y e (sym p)))

pub same_sym : (xs ys : List ℕ) → same xs ys ≡ same ys xs
unfolding same
same_sym [] [] = refl
same_sym [] (y ∷ ys) = refl
same_sym (x ∷ xs) [] = refl
same_sym (x ∷ xs) (y ∷ ys) = rw (eqb_sym x y, same_sym xs ys)

-- the position of one party moved: each member is what the later transfers make of its grant
pub moved_by : (L L' : List Transfer) (party : List ℕ) (h : ℤ → ℤ) (g : Grant) →
    cond (same party g.key) (h (position_of L g.key)) (position_of L g.key) ≡ position_of L' g.key →
    moved_at party h (member_by L g) ≡ member_by L' g
moved_by L L' party h g e = rw (same_sym g.key party) (go (same party g.key) e)
  where
    go : (t : Bool) → cond t (h (position_of L g.key)) (position_of L g.key) ≡ position_of L' g.key →
        cond t (positioned h (member_by L g)) (member_by L g) ≡ member_by L' g
    go true e = λ i. record { key = g.key; standing = record { cap = g.cap; position = e i } }
    go false e = λ i. record { key = g.key; standing = record { cap = g.cap; position = e i } }

-- what an amount counts for where a test holds
pub and-true : (t : Bool) (x : ℕ) → cond (t && true) x 0 ≡ cond t x 0
and-true true x = refl
and-true false x = refl

pub and-false : (t : Bool) (x : ℕ) → cond (t && false) x 0 ≡ 0
and-false true x = refl
and-false false x = refl
