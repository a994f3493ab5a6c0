-- A book and a past that agree stay so, whatever call comes.
use Prim.Native.Nat.{ℕ}
use mathlib.Core.Path.{◌≡◌, refl, sym, ap, ◌∙◌, subst}
use mathlib.Core.Bool.{Bool, true, false, cond}
use mathlib.Core.List.{List, [], ◌∷◌, map-id}
use mathlib.Core.Option.{some}
use native.Mathlib.Omega.{arith}
use lib.ListN.{length}
use Rattle.octets.specs.Lists.{sum}
use Rattle.octets.specs.Parts.{same}
use Rattle.uuid_text.specs.Id.{id_of}
use Rattle.rules.specs.declared.Answer.{Answer}
use Rattle.rules.specs.Answers.{is_done}
use Rattle.rules.specs.Calls.{Text, PrepareText, Call, condition_of, code_of}
use Rattle.rules.specs.Calls as rules
use Rattle.rules.specs.View.{committed, aborted, Transfer}
use Rattle.rules.specs.Rules.{answer_to}
use Rattle.shape.specs.Reading.{Book, held_transfer}
use Rattle.shape.specs.Seen.{seen}
use Rattle.book.specs.Step.{book_of}
use Rattle.open_book.specs.Effect.{fresh_book, open_step}
use Rattle.open_book.proofs.Theorems.{opened_shape}
use Rattle.join.specs.Effect.{join_step}
use Rattle.join.proofs.Theorems as join
use Rattle.prepare.specs.Effect.{prepare_step}
use Rattle.prepare.proofs.Theorems as prepare
use Rattle.fulfil.specs.Effect.{fulfil_step}
use Rattle.fulfil.proofs.Theorems as fulfil
use Rattle.abort.specs.Effect.{abort_step}
use Rattle.abort.proofs.Theorems as abort
use Rattle.time.specs.Effect.{places_in, time_step}
use Rattle.time.proofs.Theorems as time
use Rattle.lookup.specs.Effect.{lookup_step}
use Rattle.lookup.proofs.Theorems as lookup
use Rattle.ledger.specs.Ledger.{members_in}
use Rattle.recount.specs.History.{Came, left_by, book_after}
use Rattle.recount.specs.History as came
use Rattle.recount.specs.Recount.{Past, Entry, Grant, transfers_of, grants_of, clock_of, sent, received, has_id, recounted, is_noted, entered, noting, past_with, past_after}
use Rattle.recount.specs.Demand.{fresh_past}
use Rattle.recount.proofs.Sums.{first_test}
use Rattle.recount.proofs.Given.{CallLaws}
use Rattle.recount.proofs.Agrees.{transfers_by, grants_by, member_by, Agrees, agree}
use Rattle.recount.proofs.Positions.{position-same, same_sym}
use Rattle.recount.proofs.Allowed.{join_new, prepare_allowed, fulfil_allowed, abort_allowed}
use Rattle.recount.proofs.Noted.{sum_ends, sum_idle, grants_kept, orderly_ends}
use Rattle.recount.proofs.Stays.{members_stay, agrees_still}
use Rattle.recount.proofs.EndsOne.{ended-agrees, commit_settles, abort_settles}
use Rattle.recount.proofs.EndsDue.{swept-agrees}
use Rattle.recount.proofs.Prepares.{prepared-agrees}
use Rattle.recount.proofs.Joins.{joined-agrees}

-- an accepted open: nothing is held, and nothing was noted
module _ (laws : CallLaws) (b : Book) (currency instant : Text) (e : is_done (open_step b currency instant).answer ≡ true) where
  opened_left : (open_step b currency instant).left ≡ fresh_book b currency instant
  unfolding open_step
  opened_left = rw e

  pub opened_agrees : Agrees (open_step b currency instant).left (fresh_past b currency instant)
  unfolding transfers_of grants_of clock_of fresh_book
  opened_agrees = record {
    shaped = opened_shape b currency instant e;
    wide = laws.open_wide b currency instant e;
    currency = ap (λ (h : Book). h.head.currency) opened_left;
    clock = ap (λ (h : Book). h.head.time) opened_left;
    slots = ap (λ (h : Book). h.head.slots) opened_left;
    places = ap (λ (h : Book). h.head.places) opened_left;
    members = (laws.opened b currency instant e).members;
    transfers = λ f. ap (sum f) (laws.opened b currency instant e).transfers;
    orderly = record { once = λ id. omega arith; strangers = λ key n. refl; caps = λ key. refl };
  }

-- a lookup is noted, and changes nothing
looked_agrees : (b : Book) (p : Past) (id : Text) (answer : Answer) → Agrees b p → Agrees b (entered p (rules.lookup id) answer)
looked_agrees b p id answer a =
    let c = rules.lookup id in
    let e : Entry = record { call = rules.lookup id; answer = answer } in
    let us = transfers_by (entered p (rules.lookup id) answer) in
    let sums : (f : Transfer → ℕ) → sum f us ≡ sum f (transfers_by p) = λ f. omega (arith, sum_idle p.entries e (λ d. refl) f) in
    let position : (g : Grant) → member_by (transfers_by p) g ≡ member_by us g = λ g i. record {
      key = g.key;
      standing = record {
        cap = g.cap;
        position = position-same (transfers_by p) us g.key (omega (arith, sums (sent g.key), sums (received g.key))) i;
      };
    } in
    agrees_still b b p a c answer a.shaped a.wide (record { currency = refl; slots = refl; places = refl }) refl
    (members_stay b b p a c answer (λ m. m) (sym (map-id (members_in b))) refl position)
    (λ f. a.transfers f ∙ sym (sums f))
    (rw (grants_kept p.entries e refl)
    (orderly_ends c (transfers_by p) us (grants_by p) (sum_ends p.entries e refl) a.orderly))

-- accepted, a call is noted; refused, it leaves the book as it was
either_way : (b left : Book) (p : Past) (c : Call) → Agrees b p →
    (is_done (answer_to (recounted p) c) ≡ true → Agrees left (noting p c (answer_to (recounted p) c))) →
    (is_done (answer_to (recounted p) c) ≡ false → left ≡ b) →
    Agrees left (cond (is_noted (answer_to (recounted p) c)) (noting p c (answer_to (recounted p) c)) p)
either_way b left p c a noted refused = go (is_done (answer_to (recounted p) c)) refl
  where
    go : (d : Bool) → is_done (answer_to (recounted p) c) ≡ d → Agrees left (cond d (noting p c (answer_to (recounted p) c)) p)
    go true e = noted e
    go false e = subst (λ (x : Book). Agrees x p) (sym (refused e)) a

module _ (laws : CallLaws) (b : Book) (p : Past) (a : Agrees b p) where
  pub same_view : seen b ≡ recounted p
  same_view = agree b p a (laws.seen_in b a.shaped a.wide)

  -- the book's answer is the recount's
  accepts : (c : Call) (t : Bool) → is_done (answer_to (recounted p) c) ≡ t → is_done (answer_to (seen b) c) ≡ t
  accepts c t e = ap (λ v. is_done (answer_to v c)) same_view ∙ e

  kept_join : (name cap : Text) → Agrees (left_by b (came.join name cap)) (past_with p (came.join name cap))
  unfolding join_step
  kept_join name cap =
      let c = rules.join name cap in
      either_way b (join_step b name cap).left p c a
      (λ e. joined-agrees p name cap (answer_to (recounted p) c) (join_new (recounted p) name cap e) b (join_step b name cap).left a
      (laws.joined b a.shaped a.wide name cap (accepts c true e)) (join.shape-kept b name cap a.wide a.shaped)
      (laws.join_wide b a.shaped a.wide name cap))
      (λ e. join.refused_keeps b name cap (accepts c false e))

  kept_prepare : (t : PrepareText) → Agrees (left_by b (came.prepare t)) (past_with p (came.prepare t))
  unfolding prepare_step
  kept_prepare t =
      let c = rules.prepare t in
      either_way b (prepare_step b t).left p c a
      (λ e. prepared-agrees p t (answer_to (recounted p) c) (prepare_allowed (recounted p) t e) b (prepare_step b t).left a
      (laws.seen_in b a.shaped a.wide) (laws.prepared b a.shaped a.wide t (accepts c true e))
      (prepare.shape-kept b t a.wide a.shaped) (laws.prepare_wide b a.shaped a.wide t))
      (λ e. prepare.refused_keeps b t (accepts c false e))

  -- the transfer of an id that is held, and who sent the call
  own_id : (id : Text) (t : Transfer) → (recounted p).held (id_of id) ≡ some t → same (id_of id) t.content.id ≡ true
  own_id id t e = same_sym (id_of id) t.content.id ∙ first_test (has_id (id_of id)) (transfers_by p) t e

  held_in_lem : (id : Text) (t : Transfer) → (recounted p).held (id_of id) ≡ some t → held_transfer b (id_of id) ≡ some t
  held_in_lem id t e = ap (λ v. v.held (id_of id)) same_view ∙ e

  kept_fulfil : (sender id fulfilment : Text) →
      Agrees (left_by b (came.fulfil sender id fulfilment)) (past_with p (came.fulfil sender id fulfilment))
  unfolding fulfil_step
  kept_fulfil sender id fulfilment =
      let c = rules.fulfil sender id fulfilment in
      let left = (fulfil_step b sender id fulfilment).left in
      either_way b left p c a
      (λ e.
      let r = fulfil_allowed (recounted p) sender id fulfilment e in
      let t = r.0.transfer in
      ended-agrees b left p a c (answer_to (recounted p) c) (id_of id) t (committed (condition_of fulfilment)) r.0.found r.0.reserved
      (rw (own_id id t r.0.found, same_sym sender t.content.payee ∙ r.0.payee, r.1))
      (λ u n. rw (same_sym (id_of id) u.content.id ∙ n)) refl refl refl
      t.content.payee (commit_settles t (condition_of fulfilment) r.0.reserved)
      (laws.fulfilled b a.shaped a.wide sender id fulfilment (accepts c true e) t (held_in_lem id t r.0.found))
      (fulfil.shape-kept b sender id fulfilment a.wide a.shaped) (laws.fulfil_wide b a.shaped a.wide sender id fulfilment))
      (λ e. fulfil.refused_keeps b sender id fulfilment (accepts c false e))

  kept_abort : (sender id code : Text) → Agrees (left_by b (came.abort sender id code)) (past_with p (came.abort sender id code))
  unfolding abort_step
  kept_abort sender id code =
      let c = rules.abort sender id code in
      let left = (abort_step b sender id code).left in
      either_way b left p c a
      (λ e.
      let r = abort_allowed (recounted p) sender id code e in
      let t = r.transfer in
      ended-agrees b left p a c (answer_to (recounted p) c) (id_of id) t (aborted (code_of code)) r.found r.reserved
      (rw (own_id id t r.found, same_sym sender t.content.payee ∙ r.payee))
      (λ u n. rw (same_sym (id_of id) u.content.id ∙ n)) refl refl refl
      t.content.payer (abort_settles t (code_of code) r.reserved)
      (laws.aborted b a.shaped a.wide sender id code (accepts c true e) t (held_in_lem id t r.found))
      (abort.shape-kept b sender id code a.wide a.shaped) (laws.abort_wide b a.shaped a.wide sender id code))
      (λ e. abort.refused_keeps b sender id code (accepts c false e))

  kept_time : (instant : Text) (list : List ℕ) → Agrees (left_by b (came.time instant list)) (past_with p (came.time instant list))
  unfolding time_step
  kept_time instant list =
      let c = rules.time instant (places_in list) in
      either_way b (time_step b list instant).outcome.left p c a
      (λ e. swept-agrees b (time_step b list instant).outcome.left p a instant (places_in list) (answer_to (recounted p) c)
      (laws.swept b a.shaped a.wide list instant (accepts c true e)) (time.time_shape b list instant a.wide a.shaped)
      (laws.time_wide b a.shaped a.wide list instant))
      (λ e. (time.refused_keeps b list instant (accepts c false e)).0)

  kept_lookup : (id : Text) → Agrees (left_by b (came.lookup id)) (past_with p (came.lookup id))
  kept_lookup id =
      let answer = answer_to (recounted p) (rules.lookup id) in
      either_way b (lookup_step b id).left p (rules.lookup id) a
      (λ e. subst (λ (x : Book). Agrees x (entered p (rules.lookup id) answer)) (sym (lookup.keeps b id)) (looked_agrees b p id answer a))
      (λ e. lookup.keeps b id)

  kept_open : (currency instant : Text) (opened ended : List ℕ) →
      Agrees (left_by b (came.«open» currency instant opened ended)) (past_with p (came.«open» currency instant opened ended))
  unfolding open_step
  kept_open currency instant opened ended =
      go (is_done (answer_to (recounted p) (rules.«open» currency instant (length opened) (length ended)))) refl
    where
      go : (d : Bool) → is_done (answer_to (recounted p) (rules.«open» currency instant (length opened) (length ended))) ≡ d →
          Agrees (cond d (open_step (book_of b.head opened ended) currency instant).left b)
          (cond d (fresh_past (book_of b.head opened ended) currency instant) p)
      go true e = opened_agrees laws (book_of b.head opened ended) currency instant e
      go false e = a

  pub kept : (c : Came) → Agrees (left_by b c) (past_with p c)
  kept (came.«open» currency instant opened ended) = kept_open currency instant opened ended
  kept (came.join name cap) = kept_join name cap
  kept (came.prepare t) = kept_prepare t
  kept (came.fulfil sender id fulfilment) = kept_fulfil sender id fulfilment
  kept (came.abort sender id code) = kept_abort sender id code
  kept (came.time instant list) = kept_time instant list
  kept (came.lookup id) = kept_lookup id

pub all-kept : CallLaws → (calls : List Came) (b : Book) (p : Past) → Agrees b p → Agrees (book_after b calls) (past_after p calls)
unfolding book_after past_after
all-kept laws [] b p a = a
all-kept laws (c ∷ cs) b p a = all-kept laws cs (left_by b c) (past_with p c) (kept laws b p a c)
