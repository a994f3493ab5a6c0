-- What is decided under an id that no book holds: each check, with those before it not holding.
use Prim.Native.Nat.{ℕ, suc, ◌+◌, ◌*◌, ◌/◌, ◌≤◌, ◌<◌}
use mathlib.Core.Path.{◌≡◌, refl, sym, ◌∙◌}
use mathlib.Core.Bool.{Bool, true, false, cond, not}
use mathlib.Core.List.{List, [], ◌∷◌}
use native.Mathlib.Omega.{arith}
use lib.Dec.{ltb}
use lib.IntN.{ℤ}
use lib.ListN.{length, take}
use lib.Signed.{le_z}
use mir.Facts.{to_z-of_z}
use mir.Syntax.{w64}
use mir.Val.{SFits, of_z, to_z}
use borrow.Author.Tests.{le-leb, lt-leb, ltb-true, ltb-false}
use Rattle.std.proofs.Common.{Option, Some, None, Result, Ok, Err}
use Rattle.std.specs.Prelude.{position}
use Rattle.octets.specs.Lists.{index, count}
use Rattle.octets.proofs.Walk.{count-le}
use Rattle.account.specs.declared.Head.{Head}
use Rattle.record.specs.declared.Content.{Content}
use Rattle.record.specs.Layout.{is_free}
use Rattle.record.specs.Rows.{rows}
use Rattle.record.proofs.Rows.{length-rows, position-first}
use Rattle.rules.specs.declared.Answer.{Answer}
use Rattle.rules.specs.declared.Answer.TheVariants.{Expired, OpenBookFull, NoPlaceLeft, CapPassed}
use Rattle.prepare.specs.declared.Accounts.{Accounts}
use Rattle.prepare.specs.declared.Reservation.{Reservation}
use Rattle.prepare.specs.Inner.{taken_in, passes, reservation_in, new_decision}

-- instants compared as the code holds them
pub compared : (x y : ℤ) {t : Bool} → SFits w64 x → SFits w64 y → le_z (to_z w64 (of_z w64 x)) (to_z w64 (of_z w64 y)) ≡ t → le_z x y ≡ t
compared x y h k e = rw (to_z-of_z h, to_z-of_z k) at e

-- where no element passes a test, all fail it; and where one does, not all fail it
module _ {A : Type 0} (q : A → Bool) where
  pub all-counted : (xs : List A) → length xs ≤ index q xs → count (λ (x : A). not (q x)) xs ≡ length xs
  all-counted [] h = refl
  all-counted (x ∷ xs) h = go (q x) h (all-counted xs)
    where
      go : (t : Bool) → suc (length xs) ≤ cond t 0 (suc (index q xs)) →
          (length xs ≤ index q xs → count (λ x. not (q x)) xs ≡ length xs) → cond (not t) 1 0 + count (λ x. not (q x)) xs ≡ suc (length xs)
      go true h ih = absurd (omega arith)
      go false h ih = omega (arith, ih (omega arith))

  some-left : (xs : List A) → index q xs < length xs → count (λ (x : A). not (q x)) xs < length xs
  some-left [] h = absurd (omega arith)
  some-left (x ∷ xs) h = go (q x) h (some-left xs)
    where
      go : (t : Bool) → cond t 0 (suc (index q xs)) < suc (length xs) →
          (index q xs < length xs → count (λ x. not (q x)) xs < length xs) → cond (not t) 1 0 + count (λ x. not (q x)) xs < suc (length xs)
      go true h ih = omega (arith, count-le (λ (x : A). not (q x)) xs)
      go false h ih = omega (arith, ih (omega arith))

-- what the search for a free slot tells of the slots that are taken
module _ (h : Head) (opened : List ℕ) (l : h.slots * 160 ≤ length opened) where
  abbrev first_free : Option ℕ
  first_free = position is_free (take h.slots (rows (length opened / 160) opened))

  by_index : (o : Option ℕ) → first_free ≡ o →
      cond (ltb (index is_free (rows h.slots opened)) h.slots) (Some (index is_free (rows h.slots opened))) None ≡ o
  by_index o e = sym (position-first opened is_free h.slots l) ∙ e

  pub none_free : first_free ≡ None → h.slots ≤ taken_in h opened
  none_free e = go (ltb (index is_free (rows h.slots opened)) h.slots) refl (by_index None e)
    where
      go : (t : Bool) → ltb (index is_free (rows h.slots opened)) h.slots ≡ t →
          cond t (Some (index is_free (rows h.slots opened))) None ≡ None → h.slots ≤ taken_in h opened
      go true t e = absurd cc
      go false t e =
          let n = length-rows h.slots opened in
          let m = ltb-false _ _ t in
          omega (arith, all-counted is_free (rows h.slots opened) (omega arith))

  pub one_free : (k : ℕ) → first_free ≡ Some k → (k ≡ index is_free (rows h.slots opened)) × (taken_in h opened < h.slots)
  one_free k e = go (ltb (index is_free (rows h.slots opened)) h.slots) refl (by_index (Some k) e)
    where
      go : (t : Bool) → ltb (index is_free (rows h.slots opened)) h.slots ≡ t →
          cond t (Some (index is_free (rows h.slots opened))) None ≡ Some k →
          (k ≡ index is_free (rows h.slots opened)) × (taken_in h opened < h.slots)
      go true t e =
          let n = length-rows h.slots opened in
          let m = ltb-true _ _ t in
          (cc, omega (arith, some-left is_free (rows h.slots opened) (omega arith)))
      go false t e = absurd cc

module _ (h : Head) (opened : List ℕ) (c : Content) (p : Accounts) where
  abbrev refused : Answer → Result Reservation Answer
  refused a = Err a

  pub expired : le_z c.expiration h.time ≡ true → refused Expired ≡ new_decision h opened (Ok p) c
  unfolding new_decision
  expired e = rw e

  module _ (e : le_z c.expiration h.time ≡ false) where
    pub full : h.slots ≤ taken_in h opened → refused OpenBookFull ≡ new_decision h opened (Ok p) c
    unfolding new_decision
    full f = rw (e, le-leb h.slots (taken_in h opened) f)

    module _ (f : taken_in h opened < h.slots) where
      pub filled : h.places ≤ taken_in h opened + h.finished → refused NoPlaceLeft ≡ new_decision h opened (Ok p) c
      unfolding new_decision
      filled g = rw (e, lt-leb h.slots (taken_in h opened) f, le-leb h.places (taken_in h opened + h.finished) g)

      module _ (g : taken_in h opened + h.finished < h.places) where
        pub capped : passes h p.payer c.amount ≡ true → refused CapPassed ≡ new_decision h opened (Ok p) c
        unfolding new_decision
        capped t = rw (e, lt-leb h.slots (taken_in h opened) f, lt-leb h.places (taken_in h opened + h.finished) g, t)

        pub accepted : passes h p.payer c.amount ≡ false → Ok (reservation_in h opened p) ≡ new_decision h opened (Ok p) c
        unfolding new_decision
        accepted t = rw (e, lt-leb h.slots (taken_in h opened) f, lt-leb h.places (taken_in h opened + h.finished) g, t)
