-- A join on a book of the shape leaves a book of the shape: one account more, in order, its name new, its position 0.
use Prim.Native.Nat.{ℕ, suc, ◌+◌, ◌-◌, ◌≤◌, ◌<◌, ◌^◌}
use mathlib.Core.Path.{◌≡◌, refl, ap, sym, ◌∙◌}
use mathlib.Core.Bool.{Bool, true, false, false≢true, cond}
use mathlib.Core.List.{List, [], ◌∷◌, ◌++◌, map}
use native.Mathlib.Omega.{arith}
use native.Mathlib.Numerals.{add-one}
use lib.Dec.{ltb}
use lib.IntN.{pos, ◌+ℤ◌}
use lib.Signed.{mag}
use lib.ListN.{length, length-append}
use lib.Seq.{take_at, take_all, get_or_at, take-suc-set, get_or-set_same, get_or-set_other}
use borrow.Author.Tests.{ltb-true, ltb-false}
use Rattle.octets.specs.Lists.{index}
use Rattle.octets.specs.Parts.{same, zeros}
use Rattle.octets.proofs.Equal.{same_refl, same_equal}
use Rattle.form.specs.Listings.{name_form}
use Rattle.amount.specs.Amount.{ten_thousandths}
use Rattle.account.specs.declared.Account.{Account}
use Rattle.account.specs.declared.Head.{Head}
use Rattle.account.specs.Position.{value}
use Rattle.account.specs.Head.{name_of, named, place_of, accounts_of, account_at, no_account}
use Rattle.rules.specs.Calls.{Text, is_of}
use Rattle.rules.specs.Rules.{highest_cap}
use Rattle.shape.specs.Reading.{Book, names_of}
use Rattle.shape.specs.Shape.{none_twice, total}
use Rattle.shape.specs.Scan.{is_new}
use Rattle.shape.specs.Sound.{SoundAccount, SoundRecord, SoundSlot, SoundEnded, Sound}
use Rattle.shape.proofs.Names.{none_more, length_accounts, length-names}
use Rattle.shape.proofs.Sound.{lengths_kept}
use Rattle.book.specs.Step.{book_of}
use Rattle.join.specs.Effect.{new_account, with_account}
use Rattle.join.proofs.Fields.{name_short}

-- the accounts in use, with the new one after them
accounts_more : (h : Head) (a : Account) → h.count < length h.accounts → accounts_of (with_account h a) ≡ accounts_of h ++ (a ∷ [])
unfolding with_account
accounts_more h a l =
    rw (add-one h.count) (take-suc-set h.accounts h.count a l)

map_snoc : {A B : Type 0} (f : A → B) (xs : List A) (x : A) → map f (xs ++ (x ∷ [])) ≡ map f xs ++ (f x ∷ [])
map_snoc f [] x = refl
map_snoc f (y ∷ ys) x = ap (λ (l : List _). f y ∷ l) (map_snoc f ys x)

total-snoc : (xs : List Account) (a : Account) → value a.position ≡ pos 0 → total (xs ++ (a ∷ [])) ≡ total xs
total-snoc [] a e = rw e
total-snoc (x ∷ xs) a e = ap (λ z. value x.position +ℤ z) (total-snoc xs a e)

-- a name that no account has is new
same-turned : (xs ys : List ℕ) → same xs ys ≡ false → same ys xs ≡ false
same-turned xs ys e = by (same ys xs) refl
  where
    by : (t : Bool) → same ys xs ≡ t → t ≡ false
    by true f = absurd (false≢true (sym e ∙ rw (same_equal ys xs f) (same_refl xs)))
    by false f = refl

none_named : (name : List ℕ) (xs : List Account) → length xs ≤ index (named name) xs → is_new (map name_of xs) name ≡ true
none_named name [] h = refl
none_named name (x ∷ xs) h = by (none_named name xs) (named name x) refl h
  where
    by : (length xs ≤ index (named name) xs → is_new (map name_of xs) name ≡ true) → (t : Bool) → named name x ≡ t →
        suc (length xs) ≤ cond t 0 (suc (index (named name) xs)) → is_new (map name_of (x ∷ xs)) name ≡ true
    by more true e h = absurd (omega arith)
    by more false e h = rw (same-turned (name_of x) name e) (more (omega arith))

-- what is told of a record with so many accounts is told with one more
module _ (n : ℕ) where
  more_record : (r : List ℕ) → SoundRecord n r → SoundRecord (n + 1) r
  more_record r s = record {
    payer = omega (arith, s.payer);
    payee = omega (arith, s.payee);
    differ = s.differ;
    units = s.units;
    remainder = s.remainder;
  }

  more_slot : (r : List ℕ) → SoundSlot n r → SoundSlot (n + 1) r
  more_slot r s = record {
    free = s.free;
    taken = λ e. record { state = (s.taken e).state; ended_by = (s.taken e).ended_by; body = more_record r (s.taken e).body };
  }

  more_ended : (r : List ℕ) → SoundEnded n r → SoundEnded (n + 1) r
  more_ended r s = record { ending = s.ending; body = more_record r s.body }

-- the new account
module _ (name cap : Text) (e : is_of name_form name ≡ true) (l : ten_thousandths cap ≤ highest_cap) where
  new-named : name_of (new_account name cap) ≡ name
  new-named = take_at name (zeros (32 - length name)) (length name) refl

  new-value : value (new_account name cap).position ≡ pos 0
  unfolding value
  new-value = refl

  new_sound : SoundAccount (new_account name cap)
  new_sound = record {
    short = name_short name e;
    name = rw new-named e;
    cap = omega (arith, l);
    cap_remainder = omega arith;
    position = rw new-value;
    remainder = omega arith;
  }

module _
    (b : Book) (s : Sound b) (name cap : Text) (long : length b.head.accounts ≡ 32)
    (e : is_of name_form name ≡ true) (l : ten_thousandths cap ≤ highest_cap)
    (unheld : b.head.count ≤ place_of b.head name) (room : b.head.count < 32) where
  abbrev next : Head
  next = with_account b.head (new_account name cap)

  accounts_next : accounts_of next ≡ accounts_of b.head ++ (new_account name cap ∷ [])
  accounts_next = accounts_more b.head (new_account name cap) (omega (arith, long))

  names-next : names_of next ≡ names_of b.head ++ (name ∷ [])
  names-next =
      ap (map name_of) accounts_next ∙ map_snoc name_of (accounts_of b.head) (new_account name cap)
      ∙ ap (λ (n : List ℕ). names_of b.head ++ (n ∷ [])) (new-named name cap e l)

  once_next : none_twice (names_of next) ≡ true
  once_next =
      let k = b.head.count in
      let N = names_of b.head in
      let ls = length-names b.head long s.few in
      let whole : length (N ++ (name ∷ [])) ≡ k + 1 = omega (arith, length-append N (name ∷ []), ls) in
      rw (
        names-next,
        ← take_all (k + 1) (N ++ (name ∷ [])) (omega arith),
        none_more (N ++ (name ∷ [])) k (omega arith),
        take_at N (name ∷ []) k ls,
        get_or_at N name [] [] k ls,
        s.once,
      )
      (none_named name (accounts_of b.head) (omega (arith, unheld, length_accounts b.head long s.few)))

  -- each account in use is one of before or the new one
  each_next : (P : Account → Type 0) → ((k : ℕ) → k < b.head.count → P (account_at b.head k)) → P (new_account name cap) →
      (k : ℕ) → k < b.head.count + 1 → P (account_at next k)
  unfolding with_account
  each_next P old new k i = by (ltb k b.head.count) refl
    where
      by : (t : Bool) → ltb k b.head.count ≡ t → P (account_at next k)
      by true f =
          let j = ltb-true k b.head.count f in
          rw (get_or-set_other b.head.accounts b.head.count k (new_account name cap) no_account (λ g. omega (arith, j, g))) (old k j)
      by false f =
          let g : k ≡ b.head.count = omega (arith, ltb-false k b.head.count f) in
          rw (g, get_or-set_same b.head.accounts b.head.count (new_account name cap) no_account (omega (arith, long))) new

  pub join_sound : Sound (book_of next b.opened b.ended)
  unfolding with_account
  join_sound =
      let n = b.head.count in
      record {
        lengths = lengths_kept b _ s.lengths refl refl refl refl;
        few = omega (arith, room);
        account = each_next SoundAccount s.account (new_sound name cap e l);
        once = once_next;
        slot = λ k i. more_slot n _ (s.slot k i);
        place = λ k i. more_ended n _ (s.place k i);
        rest = s.rest;
        room = s.room;
        balance = ap total accounts_next ∙ total-snoc (accounts_of b.head) (new_account name cap) (new-value name cap e l) ∙ s.balance;
        units = each_next (λ (a : Account). mag a.position.units < 2 ^ 62) s.units (omega arith);
      }
