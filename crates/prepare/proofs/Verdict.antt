-- What is decided is what the rules answer; and what an answer 0 tells.
use Prim.Native.Nat.{ℕ, ◌+◌, ◌*◌, ◌≤◌, ◌<◌}
use mathlib.Core.Path.{◌≡◌, refl, ap, sym, ◌∙◌}
use mathlib.Core.Bool.{Bool, true, false, cond, not}
use mathlib.Core.List.{List, [], ◌∷◌}
use mathlib.Core.Option.{Option, none, some}
use Rattle.std.proofs.Common.{Result, Ok, Err}
use native.Mathlib.Omega.{arith}
use lib.Dec.{eqb, leb}
use lib.ListN.{length}
use lib.Seq.{sets}
use lib.Signed.{le_z}
use borrow.Author.Tests.{eqb-true, eqb-false, leb-true, leb-false}
use Rattle.octets.specs.Lists.{index}
use Rattle.octets.specs.Parts.{same, zeros}
use Rattle.octets.proofs.Equal.{zero-zeros}
use Rattle.octets.proofs.Search.{first_at, first-none, index-le, index-passes}
use Rattle.account.specs.declared.Account.{Account}
use Rattle.account.specs.Position.{InRange}
use Rattle.account.specs.Head.{named, accounts_of, account_at, no_account, place_of}
use Rattle.record.specs.declared.Content.{Content}
use Rattle.record.specs.Layout.{Row, num, number_field, is_free, new_row}
use Rattle.record.specs.Rows.{row}
use Rattle.record.proofs.Rows.{length-rows, rows_at, length-row}
use Rattle.rules.specs.declared.Answer.{Answer}
use Rattle.rules.specs.declared.Answer.TheVariants.{Done, NoPayer, NoPayee, PayerIsPayee, OtherCurrency}
use Rattle.rules.specs.declared.Answer.TheVariants.{Expired, OpenBookFull, NoPlaceLeft, CapPassed}
use Rattle.rules.specs.Answers.{is_done}
use Rattle.rules.specs.View.{Standing}
use Rattle.rules.specs.Rules.{◌gives◌, first_of, exists, same_content, new_rules, id_rules, prepare_rules, number_or}
use Rattle.shape.specs.Reading.{Book, account_of, standing, map_some, names_of, transfer_of, held_row, held_transfer, open_rows, open_count}
use Rattle.shape.specs.Seen.{seen}
use Rattle.shape.specs.Sound.{Sound}
use Rattle.shape.proofs.Names.{length_accounts, account_at_lem}
use Rattle.book.specs.Inner.{resent, kept}
use Rattle.book.proofs.Decisions.{clash, in_open}
use Rattle.prepare.specs.Effect.{new_number, free_slot, raised}
use Rattle.prepare.specs.declared.Accounts.{Accounts}
use Rattle.prepare.specs.declared.Reservation.{Reservation}
use Rattle.prepare.specs.declared.Refusal.{Refusal}
use Rattle.prepare.specs.Inner.{said, or_else, on_record, party_rules, parties_at, passes, fresh_rules, reservation_in, new_decision}
use Rattle.prepare.specs.Inner.{NewRises, decided, CanReserve, reserved_by, prepared_by}
use Rattle.prepare.proofs.Fresh.{all-counted}
use Rattle.prepare.proofs.Places.{rises}

-- four checks on the parties: with what follows them, and when none of them holds
abbrev parties : Bool → Bool → Bool → Bool → Answer → Answer
parties s t u v otherwise =
    first_of ((s gives NoPayer) ∷ (t gives NoPayee) ∷ (u gives PayerIsPayee) ∷ (v gives OtherCurrency) ∷ []) otherwise

then : (s t u v : Bool) (a : Answer) → parties s t u v a ≡ cond (is_done (parties s t u v Done)) a (parties s t u v Done)
then true t u v a = refl
then false true u v a = refl
then false false true v a = refl
then false false false true a = refl
then false false false false a = refl

none-holds : (s t u v : Bool) → is_done (parties s t u v Done) ≡ true → (s ≡ false) × (t ≡ false) × (u ≡ false)
none-holds true t u v e = clash e
none-holds false true u v e = clash e
none-holds false false true v e = clash e
none-holds false false false v e = (refl, refl, refl)

-- four checks on a new transfer
abbrev checks : Bool → Bool → Bool → Bool → Answer
checks s t u v = first_of ((s gives Expired) ∷ (t gives OpenBookFull) ∷ (u gives NoPlaceLeft) ∷ (v gives CapPassed) ∷ []) Done

none_fails : (s t u v : Bool) → is_done (checks s t u v) ≡ true → (t ≡ false) × (u ≡ false) × (v ≡ false) × (checks s t u v ≡ Done)
none_fails true t u v e = clash e
none_fails false true u v e = clash e
none_fails false false true v e = clash e
none_fails false false false true e = clash e
none_fails false false false false e = (refl, refl, refl, refl)

below : (n m : ℕ) → n ≤ m → (n ≡ m → ⊥) → n < m
below n m h k = omega arith

-- where an answer 0 leads: no record holds the id, and the checks before it did not hold
pub record Accepted (b : Book) (payer payee : List ℕ) (c : Content) (p q : ℕ) : Type 0 where
  pub payer_is : p < b.head.count
  pub payee_is : q < b.head.count
  pub differ : same payer payee ≡ false
  pub unheld : held_transfer b c.id ≡ none
  pub free : free_slot b < b.head.slots
  pub place : open_count b + b.head.finished < b.head.places
  pub cap : passes b.head p c.amount ≡ false

-- a refusal under an id that no book holds
abbrev pub without_record : Result Reservation Answer → Result Reservation Refusal
without_record (Ok r) = Ok r
without_record (Err a) = Err (record { answer = a; mark = 0 })

module _ (b : Book) (s : Sound b) (long : length b.head.accounts ≡ 32) where
  -- the account of a name, by its number
  account_place : (name : List ℕ) → place_of b.head name ≤ b.head.count
  account_place name =
      omega (arith, index-le (named name) (accounts_of b.head), length_accounts b.head long s.few)

  account_found : (name : List ℕ) → place_of b.head name < b.head.count →
      account_of b name ≡ some (standing (account_at b.head (place_of b.head name)))
  account_found name h =
      let xs = accounts_of b.head in
      let l : index (named name) xs < length xs = omega (arith, length_accounts b.head long s.few) in
      ap (map_some standing) (first_at (named name) xs no_account l)
      ∙ ap (λ (a : Account). some (standing a)) (account_at_lem b.head (place_of b.head name) h)

  not-held : (name : List ℕ) → not (exists (account_of b name)) ≡ eqb (place_of b.head name) b.head.count
  not-held name = go (eqb (place_of b.head name) b.head.count) refl
    where
      go : (t : Bool) → eqb (place_of b.head name) b.head.count ≡ t → not (exists (account_of b name)) ≡ t
      go true e =
          let xs = accounts_of b.head in
          let p = eqb-true (place_of b.head name) b.head.count e in
          let l : length xs ≤ index (named name) xs = omega (arith, length_accounts b.head long s.few) in
          ap (λ (o : Option Account). not (exists (map_some standing o))) (first-none (named name) xs l)
      go false e =
          let h : place_of b.head name < b.head.count =
          below (place_of b.head name) b.head.count (account_place name) (eqb-false _ _ e) in
          ap (λ (o : Option Standing). not (exists o)) (account_found name h)

  module _ (payer payee currency : List ℕ) (c : Content) where
    abbrev payer_at : ℕ
    payer_at = place_of b.head payer

    abbrev payee_at : ℕ
    payee_at = place_of b.head payee

    abbrev first-checks : Answer
    first-checks = party_rules b.head payer payee currency payer_at payee_at

    abbrev places : Accounts
    places = record { payer = payer_at; payee = payee_at }

    abbrev decision : Result Reservation Refusal
    decision = decided b payer payee currency c

    abbrev answer_by : Option Row → Answer
    answer_by none = cond (is_done first-checks) (fresh_rules b.head b.opened c payer_at) first-checks
    answer_by (some r) =
        cond (is_done first-checks) (resent (same_content (transfer_of (names_of b.head) r).content (said payer payee c))) first-checks

    -- the parties' account numbers, where nothing was answered on them
    pub parties-found : is_done first-checks ≡ true → (payer_at < b.head.count) × (payee_at < b.head.count) × (same payer payee ≡ false)
    parties-found e =
        let f = none-holds (eqb payer_at b.head.count) (eqb payee_at b.head.count) (same payer payee)
        (not (same currency b.head.currency)) e in (
          below payer_at b.head.count (account_place payer) (eqb-false _ _ f.0),
          below payee_at b.head.count (account_place payee) (eqb-false _ _ f.1),
          f.2,
        )

    -- the answer
    rules_are : prepare_rules (seen b) (said payer payee c) currency
        ≡ cond (is_done first-checks) (id_rules (seen b) (held_transfer b c.id) (said payer payee c)) first-checks
    rules_are =
        rw (not-held payer, not-held payee) (then (eqb payer_at b.head.count) (eqb payee_at b.head.count) (same payer payee)
        (not (same currency b.head.currency)) (id_rules (seen b) (held_transfer b c.id) (said payer payee c)))

    fresh-is : payer_at < b.head.count → fresh_rules b.head b.opened c payer_at ≡ new_rules (seen b) (said payer payee c)
    fresh-is h = rw (account_found payer h)

    decided_by : (r : Option Row) → answer_by r
        ≡ cond (is_done first-checks) (id_rules (seen b) (map_some (transfer_of (names_of b.head)) r) (said payer payee c)) first-checks
    decided_by none = go (is_done first-checks) refl
      where
        go : (t : Bool) → is_done first-checks ≡ t →
            cond t (fresh_rules b.head b.opened c payer_at) first-checks ≡ cond t (new_rules (seen b) (said payer payee c)) first-checks
        go true e = fresh-is (parties-found e).0
        go false e = refl
    decided_by (some r) = refl

    pub answer-is : answer_by (held_row b c.id) ≡ prepare_rules (seen b) (said payer payee c) currency
    answer-is = decided_by (held_row b c.id) ∙ sym rules_are

    -- what an answer 0 tells
    free_left : open_count b < b.head.slots → free_slot b < b.head.slots
    free_left h = go (leb b.head.slots (free_slot b)) refl
      where
        go : (t : Bool) → leb b.head.slots (free_slot b) ≡ t → free_slot b < b.head.slots
        go false e = leb-false b.head.slots (free_slot b) e
        go true e =
            let l = length-rows b.head.slots b.opened in
            let f = leb-true b.head.slots (free_slot b) e in
            absurd (omega (arith, all-counted is_free (open_rows b) (omega arith)))

    fresh-accepted : is_done first-checks ≡ true → is_done (fresh_rules b.head b.opened c payer_at) ≡ true → held_row b c.id ≡ none →
        Accepted b payer payee c payer_at payee_at
    fresh-accepted t e u =
        let p = parties-found t in
        let h = b.head in
        let f = none_fails (le_z c.expiration h.time) (leb h.slots (open_count b)) (leb h.places (open_count b + h.finished))
        (passes h payer_at c.amount) e in
        record {
          payer_is = p.0;
          payee_is = p.1;
          differ = p.2;
          unheld = ap (map_some (transfer_of (names_of h))) u;
          free = free_left (leb-false h.slots (open_count b) f.0);
          place = leb-false h.places (open_count b + h.finished) f.1;
          cap = f.2;
        }

    refused_held : (t : Bool) → is_done first-checks ≡ t → (u : Bool) → is_done (cond t (resent u) first-checks) ≡ false
    refused_held true e true = refl
    refused_held true e false = refl
    refused_held false e u = e

    accepted_by : (r : Option Row) → held_row b c.id ≡ r → is_done (answer_by r) ≡ true → Accepted b payer payee c payer_at payee_at
    accepted_by none u e = go (is_done first-checks) refl e
      where
        go : (t : Bool) → is_done first-checks ≡ t → is_done (cond t (fresh_rules b.head b.opened c payer_at) first-checks) ≡ true →
            Accepted b payer payee c payer_at payee_at
        go true t e = fresh-accepted t e u
        go false t e = clash (sym t ∙ e)
    accepted_by (some r) u e =
        clash (sym (refused_held (is_done first-checks) refl (same_content (transfer_of (names_of b.head) r).content (said payer payee c))) ∙ e)

    pub accepted : is_done (answer_by (held_row b c.id)) ≡ true → Accepted b payer payee c payer_at payee_at
    accepted e = accepted_by (held_row b c.id) refl e

    -- the lowest free slot is all zeros, so the record can be written there
    slot-zero : free_slot b < b.head.slots → row b.opened (free_slot b) ≡ zeros 160
    slot-zero h =
        let n = b.head.slots in
        let l : free_slot b < length (open_rows b) = omega (arith, length-rows n b.opened) in
        let r = row b.opened (free_slot b) in
        let f : is_free r ≡ true = ap is_free (sym (rows_at n (free_slot b) b.opened [] h)) ∙ index-passes is_free (open_rows b) [] l in
        zero-zeros r ((s.slot (free_slot b) h).free f) ∙ ap zeros (length-row b.opened (free_slot b) (in_open b s (free_slot b) h))

    -- the payer's position can rise, where nothing was answered on the parties
    pub new_rises : InRange c.amount → NewRises b.head (parties_at b.head payer payee currency) c.amount
    new_rises i = go (is_done first-checks) refl
      where
        go : (t : Bool) → is_done first-checks ≡ t → NewRises b.head (cond t (Ok places) (Err first-checks)) c.amount
        go true e = rises b s payer_at c.amount (parties-found e).0 i
        go false e = tt

    -- what is decided, by whether a book holds the id
    pub new_decided : held_row b c.id ≡ none → (parties : Result Accounts Answer) (d : Result Reservation Answer) →
        parties ≡ parties_at b.head payer payee currency → d ≡ new_decision b.head b.opened parties c → without_record d ≡ decision
    unfolding new_decision decided
    new_decided u parties d e f =
        rw (f, e, sym answer-is, u) (go (is_done first-checks) refl (is_done (fresh_rules b.head b.opened c payer_at)) refl)
      where
        go : (t : Bool) → is_done first-checks ≡ t → (v : Bool) → is_done (fresh_rules b.head b.opened c payer_at) ≡ v →
            without_record (new_decision b.head b.opened (cond t (Ok places) (Err first-checks)) c)
            ≡ cond (is_done (cond t (fresh_rules b.head b.opened c payer_at) first-checks)) (Ok (reservation_in b.head b.opened places))
            (Err (record { answer = cond t (fresh_rules b.head b.opened c payer_at) first-checks; mark = 0 }))
        go true t true v = rw v
        go true t false v = rw v
        go false t w v = rw t

    pub held_decided : (r : Row) → held_row b c.id ≡ some r → (parties : Result Accounts Answer) →
        parties ≡ parties_at b.head payer payee currency → Err (on_record b.head r payer payee c parties) ≡ decision
    unfolding decided transfer_of
    held_decided r u parties e =
        rw (e, sym answer-is, u)
        (go (is_done first-checks) refl (same_content (transfer_of (names_of b.head) r).content (said payer payee c)))
      where
        go : (t : Bool) → is_done first-checks ≡ t → (v : Bool) →
            ◌≡◌ {A = Result Reservation Refusal}
            (Err (record { answer = or_else (cond t (Ok places) (Err first-checks)) (resent v); mark = num number_field r }))
            (cond (is_done (cond t (resent v) first-checks)) (Ok (reservation_in b.head b.opened places))
            (Err (record { answer = cond t (resent v) first-checks; mark = num number_field r })))
        go true t true = refl
        go true t false = refl
        go false t v = rw t

    -- what is left
    done_by : (r : Option Row) → is_done (answer_by r) ≡ true → answer_by r ≡ Done
    done_by none e = go (is_done first-checks) refl e
      where
        go : (t : Bool) → is_done first-checks ≡ t → is_done (cond t (fresh_rules b.head b.opened c payer_at) first-checks) ≡ true →
            cond t (fresh_rules b.head b.opened c payer_at) first-checks ≡ Done
        go true t e =
            let h = b.head in
            (none_fails (le_z c.expiration h.time) (leb h.slots (open_count b)) (leb h.places (open_count b + h.finished))
            (passes h payer_at c.amount) e).3
        go false t e = clash (sym t ∙ e)
    done_by (some r) e =
        clash (sym (refused_held (is_done first-checks) refl (same_content (transfer_of (names_of b.head) r).content (said payer payee c))) ∙ e)

    abbrev answer : Answer
    answer = prepare_rules (seen b) (said payer payee c) currency

    -- an answer 0 is one that was accepted
    done_accepted : is_done answer ≡ true → (answer ≡ Done) × Accepted b payer payee c payer_at payee_at
    done_accepted e =
        let f : is_done (answer_by (held_row b c.id)) ≡ true = ap is_done answer-is ∙ e in
        (sym answer-is ∙ done_by (held_row b c.id) f, accepted f)

    abbrev reservation : Reservation
    reservation = reservation_in b.head b.opened places

    -- a reservation is that of an answer 0, and a refusal has the answer and the mark
    decided_ok : (r : Reservation) → decision ≡ Ok r → (is_done answer ≡ true) × (reservation ≡ r)
    unfolding decided
    decided_ok r e = go (is_done answer) refl e
      where
        go : (t : Bool) → is_done answer ≡ t → ◌≡◌ {A = Result Reservation Refusal}
            (cond t (Ok reservation) (Err (record { answer = answer; mark = number_or 0 (held_transfer b c.id) }))) (Ok r) →
            (is_done answer ≡ true) × (reservation ≡ r)
        go true t e = (t, cc)
        go false t e = absurd cc

    pub can_reserve : InRange c.amount → (r : Reservation) → decision ≡ Ok r → CanReserve b.head b.opened c r
    can_reserve i r e =
        let f = decided_ok r e in
        let a = (done_accepted f.0).1 in
        let can : CanReserve b.head b.opened c reservation = record {
          rises = rises b s payer_at c.amount a.payer_is i;
          payee = omega (arith, a.payee_is, s.few);
          inside = in_open b s (free_slot b) a.free;
          free = slot-zero a.free;
        } in
        rw (← f.1) can

    pub reserved_lem : (r : Reservation) → decision ≡ Ok r →
        record {
          answer = Done;
          mark = r.number;
          left = record {
            head = raised b.head r.accounts.payer c;
            opened = sets b.opened (r.slot * 160) (new_row c r.accounts.payer r.accounts.payee r.number);
            ended = b.ended;
          };
        } ≡ prepared_by b payer payee currency c
    unfolding prepared_by reserved_by
    reserved_lem r e =
        let f = decided_ok r e in
        let a = done_accepted f.0 in
        rw (← f.1, f.0, a.0, a.1.unheld)

    pub refused_lem : (f : Refusal) → decision ≡ Err f → kept b f.answer f.mark ≡ prepared_by b payer payee currency c
    unfolding prepared_by decided
    refused_lem f e = go (is_done answer) refl e
      where
        go : (t : Bool) → is_done answer ≡ t → ◌≡◌ {A = Result Reservation Refusal}
            (cond t (Ok reservation) (Err (record { answer = answer; mark = number_or 0 (held_transfer b c.id) }))) (Err f) →
            kept b f.answer f.mark ≡ record {
              answer = answer;
              mark = number_or (cond t (new_number b) 0) (held_transfer b c.id);
              left = cond t (reserved_by b payer payee c) b;
            }
        go true t e = absurd cc
        go false t e =
            let g : ◌≡◌ {A = Refusal} (record { answer = answer; mark = number_or 0 (held_transfer b c.id) }) f = cc in
            rw (← g)
