-- A book of the shape: its accounts can rise, and the record that is found under an id can be compared with a prepare.
use Prim.Native.Nat.{ℕ, ◌≤◌, ◌<◌}
use mathlib.Core.Path.{◌≡◌, refl, sym, ◌∙◌}
use mathlib.Core.Bool.{Bool, true, false, cond}
use mathlib.Core.List.{List}
use native.Mathlib.Omega.{arith}
use lib.Dec.{eqb, ltb}
use lib.ListN.{length}
use borrow.Author.Tests.{ltb-true, ltb-false, eq-eqb, ne_eqb}
use Rattle.std.proofs.Common.{Option, Some, None}
use Rattle.std.specs.Prelude.{position}
use Rattle.octets.proofs.Search.{index-le}
use Rattle.amount.specs.declared.Amount.{Amount}
use Rattle.account.specs.declared.Head.{Head}
use Rattle.account.specs.Position.{InRange}
use Rattle.account.specs.Head.{named, accounts_of, place_of}
use Rattle.account.proofs.Places.{place-is}
use Rattle.record.specs.declared.Content.{Content}
use Rattle.record.specs.Layout.{Row}
use Rattle.record.specs.Rows.{row}
use Rattle.shape.specs.Reading.{Book}
use Rattle.shape.specs.Sound.{Sound, SoundRecord}
use Rattle.shape.proofs.Names.{length_accounts}
use Rattle.shape.proofs.Sound.{sound_named, sound_room}
use Rattle.book.specs.declared.Place.{Place}
use Rattle.book.specs.declared.Place.TheVariants.{Opened, Ended}
use Rattle.book.specs.Step.{where_is, record_in}
use Rattle.book.proofs.Held.{opened_at, ended_at_lem}
use Rattle.book.proofs.Decisions.{held_open}
use Rattle.prepare.specs.Inner.{Comparable, CanRise}

-- what the search for an account tells of its number
module _ (h : Head) (few : h.count ≤ 32) (long : length h.accounts ≡ 32) (name : List ℕ) where
  by_number : (o : Option ℕ) → position (named name) (accounts_of h) ≡ o →
      cond (ltb (place_of h name) h.count) (Some (place_of h name)) None ≡ o
  by_number o e = sym (place-is h name few long) ∙ e

  pub no_party : position (named name) (accounts_of h) ≡ None → eqb (place_of h name) h.count ≡ true
  no_party e = go (ltb (place_of h name) h.count) refl (by_number None e)
    where
      go : (t : Bool) → ltb (place_of h name) h.count ≡ t → cond t (Some (place_of h name)) None ≡ None → eqb (place_of h name) h.count ≡ true
      go true t e = absurd cc
      go false t e =
          eq-eqb _ _ (omega (arith, ltb-false _ _ t, index-le (named name) (accounts_of h), length_accounts h long few))

  pub one_party : (k : ℕ) → position (named name) (accounts_of h) ≡ Some k → (k ≡ place_of h name) × (eqb (place_of h name) h.count ≡ false)
  one_party k e = go (ltb (place_of h name) h.count) refl (by_number (Some k) e)
    where
      go : (t : Bool) → ltb (place_of h name) h.count ≡ t → cond t (Some (place_of h name)) None ≡ Some k →
          (k ≡ place_of h name) × (eqb (place_of h name) h.count ≡ false)
      go true t e = let l = ltb-true _ _ t in (cc, ne_eqb _ _ (λ f. omega arith))
      go false t e = absurd cc

module _ (b : Book) (s : Sound b) where
  -- an account's position can rise by an amount in range
  pub rises : (p : ℕ) (a : Amount) → p < b.head.count → InRange a → CanRise b.head p a
  rises p a h i = record { account = omega (arith, s.few); room = sound_room b s p h; cap = (s.account p h).cap_remainder; amount = i }

  comparable : (r : Row) (c : Content) → SoundRecord b.head.count r → InRange c.amount → Comparable b.head r c
  comparable r c t i = record { named = sound_named b s; body = t; amount = i }

  -- a record that is found under an id can be compared with a prepare
  pub found_comparable : (id : List ℕ) (p : Place) (c : Content) → where_is b id ≡ Some p → InRange c.amount →
      Comparable b.head (record_in b.opened b.ended p) c
  found_comparable id (Opened k) c e i =
      let p = opened_at b id k e in
      comparable (row b.opened k) c (rw p.0 (held_open b s id (omega (arith, p.0, p.1))).body) i
  found_comparable id (Ended k) c e i = comparable (row b.ended k) c (s.place k (ended_at_lem b id k e)).body i
