-- How a record ends: a taken slot's record can end, and the book is then of the shape still.
use Prim.Native.Nat.{ℕ, zero, suc, ◌+◌, ◌*◌, ◌<◌, ◌≤◌, ◌^◌}
use mathlib.Core.Path.{◌≡◌, refl, ap, sym, ◌∙◌}
use mathlib.Core.Bool.{Bool, true, false, cond, not, false≢true}
use mathlib.Core.List.{List, [], ◌∷◌, map}
use native.Mathlib.Omega.{arith}
use lib.Dec.{eqb, ltb}
use lib.ListN.{length, get_or, drop, set, length-set, length-take}
use lib.Seq.{sets, get_or-take, get_or-drop, length-sets, length-take-le, take-set-lt, map-set_same, get_or-set_same, get_or-set_other, drop-drop}
use lib.IntN.{pos, ◌-ℤ◌}
use lib.Signed.{mag}
use borrow.Author.Tests.{ne_eqb, eqb-true, eqb-false, ltb-true, ltb-false}
use Rattle.octets.specs.Parts.{zeros, all_zero}
use Rattle.octets.specs.Lists.{count, sum}
use Rattle.octets.specs.Numbers.{number}
use Rattle.octets.specs.Integers.{up, dn}
use Rattle.octets.proofs.Equal.{zeros-zero}
use Rattle.octets.proofs.Stores.{length-zeros}
use Rattle.octets.proofs.Integers as integers
use Rattle.octets.proofs.Integers.{sum_split, le_split, le_yes, difference_split}
use Rattle.octets.proofs.Walk.{sum-set, count-sum, all-each}
use Rattle.octets.proofs.Parts.{drop-sets}
use Rattle.octets.proofs.Zeros.{zero-drop}
use Rattle.account.specs.declared.Account.{Account}
use Rattle.account.specs.Position.{value, lowered_by}
use Rattle.account.specs.Head.{name_of, accounts_of, account_at, no_account}
use Rattle.account.proofs.Positions.{value-lowered, held_remainder}
use Rattle.record.specs.Layout.{Row, bytes, get, num, amount_of, is_free, ended_row}
use Rattle.record.specs.Layout.{ended_by_field, code_field, remainder_field, units_field, fulfilment_field}
use Rattle.record.specs.Rows.{row, rows}
use Rattle.record.proofs.Rows.{length-rows, rows_at, length-row, rows-set, row_same, row_other, zeros_free}
use Rattle.record.proofs.Fields.{num_byte, ended, ended-payer, ended-payee, zero-num}
use Rattle.rules.specs.View.{reserved, committed, aborted, expired}
use Rattle.rules.specs.Rules.{highest_cap}
use Rattle.shape.specs.Reading.{Book, names_of, state_of, open_rows, is_taken}
use Rattle.shape.specs.Sound.{Sound, SoundRecord, SoundEnded, SoundReserved, SoundAccount, SoundSlot}
use Rattle.shape.proofs.Sound.{sound_room, sound_amount, place-left, units_bound, lengths_kept}
use Rattle.shape.specs.Shape.{account_ok, total}
use Rattle.shape.proofs.Facts.{account_ok_lem}
use Rattle.shape.proofs.Names.{account_at_lem}
use Rattle.shape.proofs.Together.{few_accounts}
use Rattle.book.specs.Ending.{amount_in, settled}
use Rattle.book.specs.Inner.{CanEnd}

-- a field of one byte, of a record in its book
pub byte-at : (b : List ℕ) (k at : ℕ) → k * 160 + 160 ≤ length b → at < 160 → num (bytes at 1) (row b k) ≡ get_or b (k * 160 + at) 0
byte-at b k at h i =
    num_byte at (row b k) (omega (arith, length-row b k h)) ∙ get_or-take 160 (drop (k * 160) b) at 0 i ∙ get_or-drop (k * 160) b at 0

-- the state of a record, told by its bytes 16 and 19
module _ (r : Row) (long : length r ≡ 160) where
  pub state_reserved : get_or r 16 0 ≡ 2 → state_of r ≡ reserved
  unfolding state_of
  state_reserved e = rw (num_byte 16 r (omega (arith, long)), e)

  pub state_committed : get_or r 16 0 ≡ 3 → state_of r ≡ committed (get fulfilment_field r)
  unfolding state_of
  state_committed e = rw (num_byte 16 r (omega (arith, long)), e)

  module _ (open-not : get_or r 16 0 ≡ 2 → ⊥) (committed-not : get_or r 16 0 ≡ 3 → ⊥) where
    ended_otherwise : state_of r ≡ cond (eqb (num ended_by_field r) 2) (aborted (num code_field r)) expired
    unfolding state_of
    ended_otherwise = rw (num_byte 16 r (omega (arith, long)), ne_eqb (get_or r 16 0) 2 open-not, ne_eqb (get_or r 16 0) 3 committed-not)

    pub state_aborted : get_or r 19 0 ≡ 2 → state_of r ≡ aborted (num code_field r)
    state_aborted e = ended_otherwise ∙ (rw (num_byte 19 r (omega (arith, long)), e))

    pub state_expired : (get_or r 19 0 ≡ 2 → ⊥) → state_of r ≡ expired
    state_expired n = ended_otherwise ∙ (rw (num_byte 19 r (omega (arith, long)), ne_eqb (get_or r 19 0) 2 n))

-- the positions together, when one falls
total_falls : (xs : List Account) (i : ℕ) (a : Account) (w : ℕ) → i < length xs →
    value a.position ≡ value (get_or xs i no_account).position -ℤ pos w →
    up (total (set xs i a)) + dn (total xs) + w ≡ up (total xs) + dn (total (set xs i a))
total_falls [] i a w h e = absurd (omega arith)
total_falls (x ∷ xs) zero a w h e =
    omega (
      arith,
      ap up e,
      ap dn e,
      difference_split (value x.position) (pos w),
      sum_split (value a.position) (total xs),
      sum_split (value x.position) (total xs),
    )
total_falls (x ∷ xs) (suc i) a w h e =
    omega (
      arith,
      total_falls xs i a w (omega arith) e,
      sum_split (value x.position) (total (set xs i a)),
      sum_split (value x.position) (total xs),
    )

-- an ended record has the parties and the amount that it had
pub body_ended : (accounts state by code : ℕ) (fulfilment : List ℕ) (r : Row) → length fulfilment ≡ 32 → length r ≡ 160 →
    SoundRecord accounts r → SoundRecord accounts (ended_row state by code fulfilment r)
body_ended accounts state by code fulfilment r sized long s =
    let payer = ended-payer state by code fulfilment r sized long in
    let payee = ended-payee state by code fulfilment r sized long in
    record {
      payer = rw payer s.payer;
      payee = rw payee s.payee;
      differ = λ e. s.differ (sym payer ∙ e ∙ payee);
      units = rw (ap number (ended state by code fulfilment r sized long units_field refl)) s.units;
      remainder = rw (ap number (ended state by code fulfilment r sized long remainder_field refl)) s.remainder;
    }

-- the record of slot k, which is taken, ends as v, and the position of account i falls by its amount
module _
    (b : Book) (s : Sound b) (k : ℕ) (inside : k < b.head.slots) (taken : is_free (row b.opened k) ≡ false)
    (i : ℕ) (party : i < b.head.count) where
  room : b.head.finished < b.head.places
  room = place-left b s k inside taken

  in_order : SoundReserved b.head.count (row b.opened k)
  in_order = (s.slot k inside).taken taken

  slot-inside : k * 160 + 160 ≤ length b.opened
  slot-inside = omega (arith, s.lengths.opened)

  pub ending_can : CanEnd b k i
  ending_can = record {
    slot = slot-inside;
    place = omega (arith, s.lengths.ended, room);
    settles = record {
      long = length-row b.opened k slot-inside;
      account = omega (arith, s.few);
      room = sound_room b s i party;
      amount = sound_amount b.head.count (row b.opened k) (amount_in (row b.opened k)) in_order.body refl refl;
      few = omega (arith, room, s.lengths.few_places);
    };
  }

  module _ (wide : length b.head.accounts ≡ 32) where
    -- the head
    abbrev lowered : Account
    lowered = record {
      name = (account_at b.head i).name;
      length = (account_at b.head i).length;
      cap = (account_at b.head i).cap;
      position = lowered_by (account_at b.head i).position (amount_in (row b.opened k));
    }

    reach : i < length b.head.accounts
    reach = omega (arith, wide, s.few)

    pub ending-wide : length (settled b.head i (row b.opened k)).accounts ≡ 32
    unfolding settled
    ending-wide = length-set b.head.accounts i lowered ∙ wide

    accounts_set : accounts_of (settled b.head i (row b.opened k)) ≡ set (accounts_of b.head) i lowered
    unfolding settled
    accounts_set = take-set-lt b.head.count b.head.accounts i lowered party

    falls : value lowered.position ≡ value (account_at b.head i).position -ℤ pos (amount_of (row b.opened k))
    falls = value-lowered (account_at b.head i).position (amount_in (row b.opened k))

    lowered_sound : SoundAccount lowered
    lowered_sound =
        let a = s.account i party in
        let p = value (account_at b.head i).position in
        let n = amount_of (row b.opened k) in
        record {
          short = a.short;
          name = a.name;
          cap = a.cap;
          cap_remainder = a.cap_remainder;
          position = rw falls (le_yes (p -ℤ pos n) (pos highest_cap)
              (omega (arith, difference_split p (pos n), le_split p (pos highest_cap) a.position)));
          remainder = held_remainder (p -ℤ pos n);
        }

    account_sound : (j : ℕ) → j < b.head.count → SoundAccount (account_at (settled b.head i (row b.opened k)) j)
    unfolding settled
    account_sound j l = by (eqb j i) refl
      where
        by : (t : Bool) → eqb j i ≡ t → SoundAccount (get_or (set b.head.accounts i lowered) j no_account)
        by true e = rw (eqb-true j i e, get_or-set_same b.head.accounts i lowered no_account reach) lowered_sound
        by false e = rw (get_or-set_other b.head.accounts i j lowered no_account (eqb-false j i e)) (s.account j l)

    names-kept : names_of (settled b.head i (row b.opened k)) ≡ names_of b.head
    names-kept =
        ap (map name_of) accounts_set
        ∙ map-set_same name_of (accounts_of b.head) i lowered no_account (sym (ap name_of (account_at_lem b.head i party)))

    -- the open book
    rows-after : rows b.head.slots (sets b.opened (k * 160) (zeros 160)) ≡ set (open_rows b) k (zeros 160)
    rows-after = rows-set b.head.slots k b.opened (zeros 160) (length-zeros 160) (omega (arith, s.lengths.opened)) inside

    -- a sum over the open records falls by what the record gave
    pub sum-ending : (f : Row → ℕ) → f (zeros 160) ≡ 0 →
        sum f (rows b.head.slots (sets b.opened (k * 160) (zeros 160))) + f (row b.opened k) ≡ sum f (open_rows b)
    sum-ending f z =
        let l : k < length (open_rows b) = omega (arith, length-rows b.head.slots b.opened) in
        omega (
          arith,
          z,
          ap (sum f) rows-after,
          sum-set f (open_rows b) k (zeros 160) [] l,
          ap f (rows_at b.head.slots k b.opened [] inside),
        )

    pub count-ending : (q : Row → Bool) → q (zeros 160) ≡ false → q (row b.opened k) ≡ true →
        count q (rows b.head.slots (sets b.opened (k * 160) (zeros 160))) + 1 ≡ count q (open_rows b)
    count-ending q z e =
        let one : Row → ℕ = λ (x : Row). cond (q x) 1 0 in
        omega (
          arith,
          sum-ending one (ap {B = ℕ} (λ (t : Bool). cond t 1 0) z),
          ap {B = ℕ} (λ (t : Bool). cond t 1 0) e,
          count-sum q (open_rows b),
          count-sum q (rows b.head.slots (sets b.opened (k * 160) (zeros 160))),
        )

    zero-amount : amount_of (zeros 160) ≡ 0
    zero-amount = omega (arith, zero-num units_field (zeros 160) (zeros-zero 160), zero-num remainder_field (zeros 160) (zeros-zero 160))

    slot_sound : (j : ℕ) → j < b.head.slots → SoundSlot b.head.count (row (sets b.opened (k * 160) (zeros 160)) j)
    slot_sound j l = by (eqb j k) refl
      where
        by : (t : Bool) → eqb j k ≡ t → SoundSlot b.head.count (row (sets b.opened (k * 160) (zeros 160)) j)
        by true e = rw (eqb-true j k e, row_same b.opened (zeros 160) k (length-zeros 160) slot-inside)
            (record { free = λ f. zeros-zero 160; taken = λ f. absurd (false≢true (sym f ∙ zeros_free)) })
        by false e = rw (row_other b.opened (zeros 160) k j (length-zeros 160) (eqb-false j k e)) (s.slot j l)

    balance : total (accounts_of (settled b.head i (row b.opened k)))
        ≡ pos (sum amount_of (rows b.head.slots (sets b.opened (k * 160) (zeros 160))))
    balance =
        let xs = accounts_of b.head in
        let n = sum amount_of (rows b.head.slots (sets b.opened (k * 160) (zeros 160))) in
        let l : i < length xs = omega (arith, length-take b.head.count b.head.accounts, wide, s.few) in
        let e = ap (λ (a : Account). value a.position) (account_at_lem b.head i party) in
        ap total accounts_set
        ∙ integers.same (total (set xs i lowered)) (pos n)
        (omega (
          arith,
          total_falls xs i lowered (amount_of (row b.opened k)) l (rw e falls),
          ap up s.balance,
          ap dn s.balance,
          sum-ending amount_of zero-amount,
        ))

    units : (j : ℕ) → j < b.head.count → mag (account_at (settled b.head i (row b.opened k)) j).position.units < 2 ^ 62
    unfolding settled
    units j l =
        let h = settled b.head i (row b.opened k) in
        let xs = accounts_of h in
        let long : length xs ≡ b.head.count = length-take-le b.head.count h.accounts (omega (arith, ending-wide, s.few)) in
        let each = all-each account_ok xs no_account (λ m g.
        let f : m < b.head.count = omega (arith, long) in
        ap account_ok (account_at_lem h m f) ∙ account_ok_lem (account_at h m) (account_sound m f)) in
        rw (account_at_lem h j l) at (units_bound xs (sum amount_of (rows b.head.slots (sets b.opened (k * 160) (zeros 160)))) j
        each (few_accounts h s.few) balance (omega (arith, long)))

    -- the finished book
    module _ (v : Row) (long : length v ≡ 160) (ok : SoundEnded b.head.count v) where
      place_sound : (j : ℕ) → j < b.head.finished + 1 → SoundEnded b.head.count (row (sets b.ended (b.head.finished * 160) v) j)
      place_sound j l = by (ltb j b.head.finished) refl
        where
          by : (t : Bool) → ltb j b.head.finished ≡ t →
              SoundEnded b.head.count (row (sets b.ended (b.head.finished * 160) v) j)
          by true e =
              let h : j < b.head.finished = ltb-true j b.head.finished e in
              rw (row_other b.ended v b.head.finished j long (λ e. omega arith)) (s.place j h)
          by false e =
              let f : j ≡ b.head.finished = omega (arith, ltb-false j b.head.finished e) in
              rw (f, row_same b.ended v b.head.finished long (omega (arith, s.lengths.ended, room))) ok

      rest-zero : all_zero (drop ((b.head.finished + 1) * 160) (sets b.ended (b.head.finished * 160) v)) ≡ true
      rest-zero =
          let at = b.head.finished * 160 in
          let e : (b.head.finished + 1) * 160 ≡ at + 160 = omega arith in
          rw (e, drop-sets b.ended v (at + 160) at (omega arith), ← drop-drop 160 at b.ended)
          (zero-drop 160 (drop at b.ended) s.rest)

      pub ending_sound : Sound (record {
        head = settled b.head i (row b.opened k);
        opened = sets b.opened (k * 160) (zeros 160);
        ended = sets b.ended (b.head.finished * 160) v;
      })
      unfolding settled
      ending_sound = record {
        lengths = lengths_kept b _ s.lengths refl refl (length-sets b.opened (k * 160) (zeros 160)) (length-sets b.ended (b.head.finished * 160) v);
        few = s.few;
        account = account_sound;
        once = rw names-kept s.once;
        slot = slot_sound;
        place = place_sound;
        rest = rest-zero;
        room = omega (arith, s.room, count-ending is_taken (ap not zeros_free) (ap not taken));
        balance = balance;
        units = units;
      }
