-- The shape by the parts of the pass, and what the parts tell each other.
use Prim.Native.Nat.{ℕ, suc, ◌+◌, ◌-◌, ◌*◌, ◌/◌, ◌<◌, ◌≤◌, ◌^◌}
use mathlib.Core.Path.{◌≡◌, refl, ap, sym, ◌∙◌}
use mathlib.Core.Bool.{Bool, true, false, cond, ◌&&◌}
use mathlib.Core.List.{List}
use native.Mathlib.Omega.{arith}
use lib.Dec.{leb, eqb}
use lib.ListN.{length, length-take, drop}
use lib.IntN.{ℤ, pos, negsuc}
use lib.Signed.{mag}
use mir.Syntax.{w128}
use mir.Val.{to_z, of_z}
use mir.Facts.{to_z_pos}
use borrow.Author.Tests.{leb-true, leb-false, eq-eqb, ne_eqb}
use Rattle.octets.specs.Lists.{all, count, sum}
use Rattle.octets.specs.Parts.{all_zero}
use Rattle.octets.proofs.Tests.{and-true, and-false, both}
use Rattle.octets.proofs.Walk.{all-at}
use Rattle.account.specs.declared.Head.{Head}
use Rattle.account.specs.Head.{accounts_of, account_at, no_account, Named}
use Rattle.record.specs.Layout.{Row, amount_of}
use Rattle.record.specs.Rows.{rows}
use Rattle.rules.specs.Rules.{sameℤ}
use Rattle.shape.specs.Reading.{Book, names_of, is_taken}
use Rattle.shape.specs.Shape.{shape, lengths_ok, account_ok, none_twice, open_ok, ended_ok, total}
use Rattle.shape.specs.declared.records.Held.{Held}
use Rattle.std.specs.Prelude.{Option, Some, None}
use Rattle.shape.specs.Scan.{accounts_ok, Judged, Sized, most_reserved, held_in_book, open_book_ok, ended_book_ok, below_of, most_below, total_in_reach}
use Rattle.shape.specs.Sound.{SoundAccount}
use Rattle.shape.proofs.Facts.{account_sound}
use Rattle.shape.proofs.Bounds.{too_much, too_low}
use Rattle.shape.proofs.Names.{length_accounts, account_at_lem}

regroup : (l c a n o e z p s : Bool) →
    l && (c && (a && (n && (o && (e && (z && (p && s))))))) ≡ l && ((c && (a && n)) && ((o && (p && s)) && (e && z)))
regroup false c a n o e z p s = refl
regroup true false a n o e z p s = refl
regroup true true false n o e z p s = refl
regroup true true true false o e z p s = refl
regroup true true true true false e z p s = refl
regroup true true true true true false z p s = sym (and-false (p && s))
regroup true true true true true true false p s = sym (and-false (p && s))
regroup true true true true true true true p s = sym (and-true (p && s))

pub together : (b : Book) →
    shape b ≡ lengths_ok b && (accounts_ok b.head && (open_book_ok b.head b.opened
    && ended_book_ok b.head.count b.head.finished b.ended))
unfolding shape accounts_ok open_book_ok ended_book_ok
together b =
    let h = b.head in
    let rs = rows h.slots b.opened in
    regroup (lengths_ok b) (leb h.count 32) (all account_ok (accounts_of h)) (none_twice (names_of h)) (all (open_ok h.count) rs)
    (all (ended_ok h.count) (rows h.finished b.ended)) (all_zero (drop (h.finished * 160) b.ended))
    (leb (count is_taken rs + h.finished) h.places) (sameℤ (total (accounts_of h)) (pos (sum amount_of rs)))

-- the accounts that were judged
pub judged : (h : Head) → accounts_ok h ≡ true → Judged h
unfolding accounts_ok
judged h e =
    let p = both (leb h.count 32) (all account_ok (accounts_of h) && none_twice (names_of h)) e in
    record { few = leb-true h.count 32 p.0; each = (both (all account_ok (accounts_of h)) (none_twice (names_of h)) p.1).0 }

pub judged_at : (h : Head) → length h.accounts ≡ 32 → Judged h → (k : ℕ) → k < h.count → SoundAccount (account_at h k)
judged_at h long j k l =
    account_sound (account_at h k) (ap account_ok (sym (account_at_lem h k l))
    ∙ all-at account_ok (accounts_of h) k no_account j.each (omega (arith, length_accounts h long j.few)))

pub judged_named : (h : Head) → length h.accounts ≡ 32 → Judged h → Named h
judged_named h long j = record { few = j.few; short = λ k l. (judged_at h long j k l).short }

pub few_accounts : (h : Head) → h.count ≤ 32 → length (accounts_of h) ≤ 32
few_accounts h few = omega (arith, length-take h.count h.accounts)

-- a sum of positions beside a sum of amounts, by their bits
pub same_bits : (z : ℤ) (n : ℕ) → mag z < 2 ^ 127 → n < 2 ^ 127 → eqb (of_z w128 z) (of_z w128 (to_z w128 n)) ≡ sameℤ z (pos n)
same_bits (pos a) n h k = rw (to_z_pos w128 k) (go (leb a n) refl (leb n a) refl)
  where
    go : (s : Bool) → leb a n ≡ s → (t : Bool) → leb n a ≡ t → eqb a n ≡ s && t
    go true e true f = eq-eqb a n (omega (arith, leb-true a n e, leb-true n a f))
    go true e false f = ne_eqb a n (λ g. omega (arith, leb-false n a f, g))
    go false e t f = ne_eqb a n (λ g. omega (arith, leb-false a n e, g))
same_bits (negsuc a) n h k = rw (to_z_pos w128 k) (ne_eqb (2 ^ 128 - suc a) n (λ e. omega arith))

-- the positions by what the sum over them gives
module _ (h : Head) where
  pub out_of_balance : Judged h → None ≡ total_in_reach (accounts_of h) → (n : ℕ) → sameℤ (total (accounts_of h)) (pos n) ≡ false
  unfolding total_in_reach
  out_of_balance j e n = go (leb (sum below_of (accounts_of h)) most_below) refl e
    where
      go : (t : Bool) → leb (sum below_of (accounts_of h)) most_below ≡ t → None ≡ cond t (Some (total (accounts_of h))) None →
          sameℤ (total (accounts_of h)) (pos n) ≡ false
      go true t f = cc
      go false t f = too_low (accounts_of h) n (few_accounts h j.few) j.each (leb-false _ _ t)

  pub total_is : (z : ℤ) → Some z ≡ total_in_reach (accounts_of h) → z ≡ total (accounts_of h)
  unfolding total_in_reach
  total_is z e = go (leb (sum below_of (accounts_of h)) most_below) e
    where
      go : (t : Bool) → Some z ≡ cond t (Some (total (accounts_of h))) None → z ≡ total (accounts_of h)
      go true f = cc
      go false f = cc

-- a book of so many slots
pub all_slots : (slots : ℕ) (book : List ℕ) → Sized slots book → rows (length book / 160) book ≡ rows slots book
all_slots slots book sized = let e : length book / 160 ≡ slots = omega (arith, sized.long) in ap (λ (n : ℕ). rows n book) e

-- the open book beside the head, by what its slots hold
module _ (h : Head) (opened : List ℕ) (sized : Sized h.slots opened) where
  pub open_wrong : Judged h → None ≡ held_in_book h.count (rows (length opened / 160) opened) → false ≡ open_book_ok h opened
  unfolding held_in_book open_book_ok
  open_wrong j e =
      go (all (open_ok h.count) rs) (leb (sum amount_of rs) most_reserved) refl refl
      (e ∙ ap (held_in_book h.count) (all_slots h.slots opened sized))
    where
      rs : List Row
      rs = rows h.slots opened

      found : Option Held
      found = Some (record { taken = count is_taken rs; reserved = sum amount_of rs })

      go : (t u : Bool) → all (open_ok h.count) rs ≡ t → leb (sum amount_of rs) most_reserved ≡ u → None ≡ cond (t && u) found None →
          false ≡ t && (leb (count is_taken rs + h.finished) h.places && sameℤ (total (accounts_of h)) (pos (sum amount_of rs)))
      go true true t u f = cc
      go true false t u f =
          rw (too_much (accounts_of h) (sum amount_of rs) (few_accounts h j.few) j.each (leb-false _ _ u))
          (sym (and-false (leb (count is_taken rs + h.finished) h.places)))
      go false u t f e = refl

  pub open_right : (held : Held) → Some held ≡ held_in_book h.count (rows (length opened / 160) opened) →
      leb (held.taken + h.finished) h.places && sameℤ (total (accounts_of h)) (pos held.reserved) ≡ open_book_ok h opened
  unfolding held_in_book open_book_ok
  open_right held e =
      go (all (open_ok h.count) rs) (leb (sum amount_of rs) most_reserved) (e ∙ ap (held_in_book h.count) (all_slots h.slots opened sized))
    where
      rs : List Row
      rs = rows h.slots opened

      go : (t u : Bool) → Some held ≡ cond (t && u) (Some (record { taken = count is_taken rs; reserved = sum amount_of rs })) None →
          leb (held.taken + h.finished) h.places && sameℤ (total (accounts_of h)) (pos held.reserved)
          ≡ t && (leb (count is_taken rs + h.finished) h.places && sameℤ (total (accounts_of h)) (pos (sum amount_of rs)))
      go true true f =
          let g : held ≡ record { taken = count is_taken rs; reserved = sum amount_of rs } = cc in
          rw (ap (λ (x : Held). x.taken) g, ap (λ (x : Held). x.reserved) g)
      go true false f = cc
      go false u f = cc

pub open_room : (h : Head) (opened : List ℕ) → open_book_ok h opened ≡ true → h.finished ≤ h.places
unfolding open_book_ok
open_room h opened e =
    let rs = rows h.slots opened in
    let balanced = sameℤ (total (accounts_of h)) (pos (sum amount_of rs)) in
    let room = leb (count is_taken rs + h.finished) h.places in
    let p = both (all (open_ok h.count) rs) (room && balanced) e in
    omega (arith, leb-true (count is_taken rs + h.finished) h.places (both room balanced p.1).0)
