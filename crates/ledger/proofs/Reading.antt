-- What a call sees of a book of the shape is found in its transfers and members: SeenIn.
use Prim.Native.Nat.{ℕ, ◌+◌}
use mathlib.Core.Path.{◌≡◌, refl, ap, ap₂, sym, ◌∙◌}
use mathlib.Core.Bool.{Bool, true, false, cond, not, ◌&&◌}
use mathlib.Core.Logic.{◌⊎◌, inl, inr}
use mathlib.Core.List.{List, [], ◌∷◌, ◌++◌, map, map-map, append-nil}
use mathlib.Core.Option.{Option, none, some}
use native.Mathlib.Omega.{arith}
use lib.Dec.{eqb, leb}
use lib.IntN.{ℤ}
use lib.Signed.{le_z}
use borrow.Author.Tests.{eqb-true}
use Rattle.octets.specs.Lists.{first, keep, count, sum}
use Rattle.octets.specs.Parts.{same}
use Rattle.octets.proofs.Tests.{and-false}
use Rattle.account.specs.declared.Account.{Account}
use Rattle.account.specs.Head.{named, accounts_of}
use Rattle.record.specs.Layout.{Row, get, num, expiration_of, is_free, id_field, state_field, number_field, ended_by_field, code_field, fulfilment_field}
use Rattle.record.specs.Rows.{row, holds}
use Rattle.record.proofs.Rows.{length-rows}
use Rattle.octets.proofs.Walk.{sum-append, count-sum}
use Rattle.rules.specs.View.{reserved, committed, aborted, expired, Transfer}
use Rattle.shape.specs.Reading.{Book, names_of, transfer_of, state_of, open_rows, ended_rows, open_count, is_taken, is_due, due_rows, numbers_of, insert, sorted}
use Rattle.shape.specs.Reading.{map_some, standing, account_of, held_transfer}
use Rattle.shape.specs.Sound.{Sound, SoundSlot, SoundEnded}
use Rattle.ledger.specs.Ledger.{Member, member_of, transfers_in, members_in, is_reserved, is_due_at}
use Rattle.ledger.specs.Laws.{insert_number, ascending, SeenIn}
use Rattle.ledger.proofs.Each.{Each, each_row, keep_append, keep-none, keep_all, keep-both, first-keep}
use Rattle.ledger.proofs.Each.{keep-map, first-map, sum-map, sum-each, sum-none, sum_ones, sum-keep}

-- a record is RESERVED by its state byte alone
reserved_state : (r : Row) → is_reserved (state_of r) ≡ eqb (num state_field r) 2
unfolding state_of
reserved_state r = by (eqb (num state_field r) 2) (eqb (num state_field r) 3) (eqb (num ended_by_field r) 2)
  where
    by : (s t u : Bool) → is_reserved (cond s reserved (cond t (committed (get fulfilment_field r)) (cond u (aborted (num code_field r)) expired))) ≡ s
    by true t u = refl
    by false true u = refl
    by false false true = refl
    by false false false = refl

pub due_at : (z : ℤ) (names : List (List ℕ)) (r : Row) → is_due_at z (transfer_of names r) ≡ is_due z r
unfolding transfer_of
due_at z names r = ap (λ (t : Bool). t && le_z (expiration_of r) z) (reserved_state r)

-- what is due is taken
due_taken : (z : ℤ) (r : Row) → is_taken r && is_due z r ≡ is_due z r
due_taken z r = by (eqb (num state_field r) 2) refl
  where
    by : (t : Bool) → eqb (num state_field r) 2 ≡ t → is_taken r && (t && le_z (expiration_of r) z) ≡ t && le_z (expiration_of r) z
    by true e = rw (eqb-true (num state_field r) 2 e)
    by false e = and-false (is_taken r)

-- an open record that is taken has state 2, and a finished one has another and is taken
open_two : (n : ℕ) (r : Row) → SoundSlot n r → is_taken r ≡ eqb (num state_field r) 2
open_two n r s = by (is_free r) refl
  where
    by : (t : Bool) → is_free r ≡ t → not t ≡ eqb (num state_field r) 2
    by true e = rw (eqb-true (num state_field r) 0 e)
    by false e = rw (s.taken e).state

ended-two : (n : ℕ) (r : Row) → SoundEnded n r → (is_taken r ≡ true) × (eqb (num state_field r) 2 ≡ false)
ended-two n r s = by s.ending
  where
    by : ((num state_field r ≡ 3) × (num ended_by_field r ≡ 1)) ⊎ ((num state_field r ≡ 4) × ((num ended_by_field r ≡ 2) ⊎ (num ended_by_field r ≡ 3))) →
        (is_taken r ≡ true) × (eqb (num state_field r) 2 ≡ false)
    by (inl e) = (rw e.0, rw e.0)
    by (inr e) = (rw e.0, rw e.0)

-- what a record of the open book, and one of the finished book, give to a sum over the transfers
module _ (names : List (List ℕ)) (f : Transfer → ℕ) where
  abbrev pub of_open : Row → ℕ
  of_open r = cond (is_taken r) (f (transfer_of names r)) 0

  abbrev pub of_ended : Row → ℕ
  of_ended r = f (transfer_of names r)

pub sum_transfers : (b : Book) (names : List (List ℕ)) → names_of b.head ≡ names → (f : Transfer → ℕ) →
    sum f (transfers_in b) ≡ sum (of_open names f) (open_rows b) + sum (of_ended names f) (ended_rows b)
sum_transfers b names e f =
    let rs = keep is_taken (open_rows b) in
    ap (λ (n : List (List ℕ)). sum f (map (transfer_of n) (rs ++ ended_rows b))) e
    ∙ sum-map (transfer_of names) f (rs ++ ended_rows b)
    ∙ sum-append (of_ended names f) rs (ended_rows b)
    ∙ ap (λ (n : ℕ). n + sum (of_ended names f) (ended_rows b)) (sum-keep is_taken (of_ended names f) (open_rows b))

-- numbers in order, of records in their order
numbers_insert : (r : Row) (rs : List Row) → numbers_of (insert r rs) ≡ insert_number (num number_field r) (numbers_of rs)
numbers_insert r [] = refl
numbers_insert r (u ∷ us) = by (leb (num number_field r) (num number_field u)) (numbers_insert r us)
  where
    by : (t : Bool) → numbers_of (insert r us) ≡ insert_number (num number_field r) (numbers_of us) →
        numbers_of (cond t (r ∷ u ∷ us) (u ∷ insert r us))
        ≡ cond t (num number_field r ∷ num number_field u ∷ numbers_of us) (num number_field u ∷ insert_number (num number_field r) (numbers_of us))
    by true e = refl
    by false e = ap (λ (l : List ℕ). num number_field u ∷ l) e

numbers_sorted : (rs : List Row) → numbers_of (sorted rs) ≡ ascending (numbers_of rs)
unfolding sorted ascending
numbers_sorted [] = refl
numbers_sorted (r ∷ rs) = numbers_insert r (sorted rs) ∙ ap (insert_number (num number_field r)) (numbers_sorted rs)

numbers_read : (names : List (List ℕ)) (rs : List Row) → map (λ (t : Transfer). t.number) (map (transfer_of names) rs) ≡ numbers_of rs
unfolding transfer_of
numbers_read names rs = map-map (λ (t : Transfer). t.number) (transfer_of names) rs

module _ (b : Book) (s : Sound b) where
  pub open_each : (P : Row → Type 0) → ((r : Row) → SoundSlot b.head.count r → P r) → Each P (open_rows b)
  open_each P h = each_row P b.head.slots b.opened (λ k l. h (row b.opened k) (s.slot k l))

  pub ended-each : (P : Row → Type 0) → ((r : Row) → SoundEnded b.head.count r → P r) → Each P (ended_rows b)
  ended-each P h = each_row P b.head.finished b.ended (λ k l. h (row b.ended k) (s.place k l))

  -- a sum over the transfers that tells a RESERVED one from the others: one part is open, the other is finished
  sum_state : (f : Transfer → ℕ) (g : Row → ℕ) (h : Row → ℕ) →
      ((r : Row) → SoundSlot b.head.count r → of_open (names_of b.head) f r ≡ g r) →
      ((r : Row) → SoundEnded b.head.count r → of_ended (names_of b.head) f r ≡ h r) →
      sum f (transfers_in b) ≡ sum g (open_rows b) + sum h (ended_rows b)
  sum_state f g h p q =
      sum_transfers b (names_of b.head) refl f
      ∙ ap₂ (λ (m n : ℕ). m + n) (sum-each (of_open (names_of b.head) f) g (open_rows b) (open_each _ p))
      (sum-each (of_ended (names_of b.head) f) h (ended_rows b) (ended-each _ q))

  abbrev is_open : Transfer → Bool
  is_open t = is_reserved t.state

  opened_seen : open_count b ≡ count is_open (transfers_in b)
  unfolding transfer_of
  opened_seen =
      count-sum is_taken (open_rows b)
      ∙ sym (count-sum is_open (transfers_in b)
      ∙ sum_state (λ t. cond (is_open t) 1 0) (λ r. cond (is_taken r) 1 0) (λ r. 0)
      (λ r o. rw (reserved_state r, ← open_two b.head.count r o) (twice (is_taken r)))
      (λ r o. rw (reserved_state r, (ended-two b.head.count r o).1))
      ∙ omega (arith, sum-none (λ r. 0) (ended_rows b) (ended-each _ (λ r o. refl))))
    where
      twice : (t : Bool) → ◌≡◌ {A = ℕ} (cond t (cond t 1 0) 0) (cond t 1 0)
      twice true = refl
      twice false = refl

  ended-seen : b.head.finished ≡ count (λ (t : Transfer). not (is_open t)) (transfers_in b)
  unfolding transfer_of
  ended-seen =
      sym (count-sum (λ t. not (is_open t)) (transfers_in b)
      ∙ sum_state (λ t. cond (not (is_open t)) 1 0) (λ r. 0) (λ r. 1)
      (λ r o. rw (reserved_state r, ← open_two b.head.count r o) (neither (is_taken r)))
      (λ r o. rw (reserved_state r, (ended-two b.head.count r o).1))
      ∙ omega (
        arith,
        sum-none (λ r. 0) (open_rows b) (open_each _ (λ r o. refl)),
        sum_ones (λ r. 1) (ended_rows b) (ended-each _ (λ r o. refl)),
        length-rows b.head.finished b.ended,
      ))
    where
      neither : (t : Bool) → ◌≡◌ {A = ℕ} (cond t (cond (not t) 1 0) 0) 0
      neither true = refl
      neither false = refl

  -- the transfers are all that is taken, in both books
  taken_rows : keep is_taken (open_rows b) ++ ended_rows b ≡ keep is_taken (open_rows b ++ ended_rows b)
  taken_rows =
      sym (keep_append is_taken (open_rows b) (ended_rows b)
      ∙ ap (λ (l : List Row). keep is_taken (open_rows b) ++ l)
      (keep_all is_taken (ended_rows b) (ended-each _ (λ r o. (ended-two b.head.count r o).0))))

  held-seen : (id : List ℕ) → held_transfer b id ≡ first (λ (t : Transfer). same t.content.id id) (transfers_in b)
  unfolding transfer_of holds
  held-seen id =
      let tr = transfer_of (names_of b.head) in
      let q : Transfer → Bool = λ t. same t.content.id id in
      let of_id : Row → Bool = λ r. same (get id_field r) id in
      sym (first-map tr q (keep is_taken (open_rows b) ++ ended_rows b)
      ∙ ap (λ (l : List Row). map_some tr (first of_id l)) taken_rows
      ∙ ap (map_some tr) (first-keep is_taken of_id (open_rows b ++ ended_rows b)))

  -- only open records are due
  pub due-rows : (z : ℤ) → keep (is_due_at z) (transfers_in b) ≡ map (transfer_of (names_of b.head)) (keep (is_due z) (open_rows b))
  due-rows z =
      let tr = transfer_of (names_of b.head) in
      let taken = keep is_taken (open_rows b) in
      keep-map tr (is_due_at z) (taken ++ ended_rows b)
      ∙ ap (λ (q : Row → Bool). map tr (keep q (taken ++ ended_rows b))) (λ i r. due_at z (names_of b.head) r i)
      ∙ ap (map tr) (keep_append (is_due z) taken (ended_rows b)
      ∙ ap₂ (λ (xs ys : List Row). xs ++ ys)
      (keep-both is_taken (is_due z) (open_rows b) ∙ ap (λ (q : Row → Bool). keep q (open_rows b)) (λ i r. due_taken z r i))
      (keep-none (is_due z) (ended_rows b) (ended-each _ (λ r o. rw (ended-two b.head.count r o).1)))
      ∙ append-nil (keep (is_due z) (open_rows b)))

  due-seen : (z : ℤ) →
      numbers_of (due_rows z b) ≡ ascending (map (λ (t : Transfer). t.number) (keep (is_due_at z) (transfers_in b)))
  due-seen z =
      numbers_sorted (keep (is_due z) (open_rows b))
      ∙ ap ascending
      (sym (ap (map (λ (t : Transfer). t.number)) (due-rows z) ∙ numbers_read (names_of b.head) (keep (is_due z) (open_rows b))))

-- the members are the accounts
accounts_seen : (b : Book) (name : List ℕ) →
    account_of b name ≡ map_some (λ (m : Member). m.standing) (first (λ (m : Member). same m.key name) (members_in b))
accounts_seen b name =
    sym (ap (map_some (λ (m : Member). m.standing)) (first-map member_of (λ (m : Member). same m.key name) (accounts_of b.head))
    ∙ by (first (named name) (accounts_of b.head)))
  where
    by : (o : Option Account) → map_some (λ (m : Member). m.standing) (map_some member_of o) ≡ map_some standing o
    by none = refl
    by (some a) = refl

pub seen_in_lem : (b : Book) → Sound b → SeenIn b
seen_in_lem b s = record {
  accounts = accounts_seen b;
  held = held-seen b s;
  opened = opened_seen b s;
  ended = ended-seen b s;
  due = due-seen b s;
}
