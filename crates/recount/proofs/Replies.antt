-- What a caller is told by a book that agrees with a past: what the recount says, and never that the book is out of shape.
use Prim.Native.Nat.{ℕ, ◌+◌}
use mathlib.Core.Path.{◌≡◌, refl, sym, ap, ap₂, ◌∙◌}
use mathlib.Core.Bool.{Bool, true, false, cond, not, ◌&&◌}
use mathlib.Core.List.{List, [], ◌∷◌, map-map}
use mathlib.Core.Option.{Option, none, some}
use lib.Dec.{eqb, leb, ltb}
use lib.ListN.{length}
use lib.Seq.{sets}
use lib.Signed.{le_z, lt_z}
use Rattle.octets.specs.Lists.{all}
use Rattle.octets.specs.Numbers.{big_endian}
use Rattle.octets.specs.Parts.{same}
use Rattle.octets.proofs.Tests.{and-false}
use Rattle.amount.specs.Amount.{ten_thousandths}
use Rattle.uuid_text.specs.Id.{id_of}
use Rattle.datetime.specs.Instant.{instant_of}
use Rattle.record.specs.Layout.{num, number_field}
use Rattle.rules.specs.declared.Answer.{Answer}
use Rattle.rules.specs.declared.Answer.TheVariants.{Done, NotInForm, NoPayer, NoPayee, PayerIsPayee, OtherCurrency, OtherContent, Expired, OpenBookFull, NoPlaceLeft, CapPassed, NotThePayee, NoMatch, ClockGoesBack, ListTooShort, NameHeld, AccountsFull, CapTooHigh, BadLengths, Resend}
use Rattle.rules.specs.Answers.{number, is_done}
use Rattle.rules.specs.Calls.{Text, Content, Call, «open», join, prepare, fulfil, abort, time, lookup, in_form, condition_of, condition_for, content_of, code_of}
use Rattle.rules.specs.View.{State, reserved, committed, aborted, expired, Transfer, View}
use Rattle.rules.specs.Rules.{exists, highest_cap, length_for, passes_cap, id_rules, same_content, payee_rules, fulfil_state, abort_state, lookup_rules, tests_shape, rules, answer_to, mark_to}
use Rattle.shape.specs.Reading.{Book, due_rows}
use Rattle.shape.specs.Seen.{seen}
use Rattle.open_book.specs.Effect.{open_step}
use Rattle.join.specs.Effect.{join_step}
use Rattle.prepare.specs.Effect.{prepare_step}
use Rattle.fulfil.specs.Effect.{fulfil_step}
use Rattle.abort.specs.Effect.{abort_step}
use Rattle.time.specs.Effect.{together, places_in, time_step}
use Rattle.lookup.specs.Effect.{lookup_step}
use Rattle.recount.specs.History.{Came, Reply, call_of, told_by, left_by, replies_of}
use Rattle.recount.specs.History as came
use Rattle.recount.specs.Recount.{Past, recounted, reply_by, reply_to, past_with, recount_of}
use Rattle.recount.specs.Demand.{is21}
use Rattle.recount.proofs.Given.{CallLaws}
use Rattle.recount.proofs.Agrees.{Agrees}
use Rattle.recount.proofs.Kept.{same_view, kept}

-- what a caller is told is the reply of the rules to what the book shows
abbrev replied : View → Call → List ℕ → Reply
replied v c list = record { answer = answer_to v c; mark = mark_to v c; list = list }

-- a call that is lent no list
unlent : (v : View) (c : Call) → replied v c [] ≡ replied v c (cond (is_done (answer_to v c)) (sets [] 0 (together [])) [])
unfolding together
unlent v c = ap (replied v c) (by (is_done (answer_to v c)))
  where
    by : (d : Bool) → ◌≡◌ {A = List ℕ} [] (cond d (sets [] 0 []) [])
    by true = refl
    by false = refl

module _ (b : Book) where
  told_time : (instant : Text) (list : List ℕ) → told_by b (came.time instant list) ≡ reply_by (seen b) (came.time instant list)
  unfolding time_step
  told_time instant list =
      let c = time instant (places_in list) in
      ap (λ ns. replied (seen b) c (cond (is_done (answer_to (seen b) c)) (sets list 0 (together ns)) list))
      (sym (map-map (big_endian 4) (num number_field) (due_rows (instant_of instant) b)))

  pub told-seen : (c : Came) → told_by b c ≡ reply_by (seen b) c
  unfolding open_step join_step prepare_step fulfil_step abort_step lookup_step
  told-seen (came.«open» currency instant opened ended) = unlent (seen b) («open» currency instant (length opened) (length ended))
  told-seen (came.join name cap) = unlent (seen b) (join name cap)
  told-seen (came.prepare t) = unlent (seen b) (prepare t)
  told-seen (came.fulfil sender id fulfilment) = unlent (seen b) (fulfil sender id fulfilment)
  told-seen (came.abort sender id code) = unlent (seen b) (abort sender id code)
  told-seen (came.time instant list) = told_time instant list
  told-seen (came.lookup id) = unlent (seen b) (lookup id)

pub told_by_lem : (b : Book) (p : Past) → seen b ≡ recounted p → (c : Came) → told_by b c ≡ reply_to p c
told_by_lem b p e c = told-seen b c ∙ ap (λ v. reply_by v c) e

pub all_told : CallLaws → (calls : List Came) (b : Book) (p : Past) → Agrees b p → replies_of b calls ≡ recount_of p calls
unfolding replies_of recount_of
all_told laws [] b p a = refl
all_told laws (c ∷ cs) b p a =
    ap₂ ◌∷◌ (told_by_lem b p (same_view laws b p a) c) (all_told laws cs (left_by b c) (past_with p c) (kept laws b p a c))

-- an answer other than 21
abbrev other : Answer → Bool
other a = not (eqb (number a) 21)

-- a check that gives another, and the rest
or_else : (t : Bool) (a rest : Answer) → other a ≡ true → other rest ≡ true → other (cond t a rest) ≡ true
or_else true a rest h k = h
or_else false a rest h k = k

fulfil_other : (s : State) (c : Content) (f : List ℕ) → other (fulfil_state s c f) ≡ true
fulfil_other reserved c f = or_else (same (condition_for f) c.condition) Done NoMatch refl refl
fulfil_other (committed g) c f = or_else (same g f) Resend OtherContent refl refl
fulfil_other (aborted n) c f = refl
fulfil_other expired c f = refl

abort_other : (s : State) (code : ℕ) → other (abort_state s code) ≡ true
abort_other reserved code = refl
abort_other (committed g) code = refl
abort_other (aborted n) code = or_else (eqb n code) Resend OtherContent refl refl
abort_other expired code = refl

payee-other : (o : Option Transfer) (sender : List ℕ) (by_state : Transfer → Answer) → ((t : Transfer) → other (by_state t) ≡ true) →
    other (payee_rules o sender by_state) ≡ true
payee-other none sender by_state h = refl
payee-other (some t) sender by_state h = or_else (same t.content.payee sender) (by_state t) NotThePayee (h t) refl

module _ (v : View) where
  id_other : (o : Option Transfer) (c : Content) → other (id_rules v o c) ≡ true
  id_other none c =
      or_else (le_z c.expiration v.clock) Expired _ refl
      (or_else (leb v.slots v.opened) OpenBookFull _ refl
      (or_else (leb v.places (v.opened + v.ended)) NoPlaceLeft _ refl
      (or_else (passes_cap (v.account c.payer) c.amount) CapPassed Done refl refl)))
  id_other (some t) c = or_else (same_content t.content c) Resend OtherContent refl refl

  lookup_other : (o : Option Transfer) → other (lookup_rules o) ≡ true
  lookup_other none = refl
  lookup_other (some t) = refl

  rules-other : (c : Call) → other (rules v c) ≡ true
  rules-other («open» currency instant o f) = or_else (not (length_for 1024 o && length_for 65535 f)) BadLengths Done refl refl
  rules-other (join name cap) =
      or_else (ltb highest_cap (ten_thousandths cap)) CapTooHigh _ refl
      (or_else (exists (v.account name)) NameHeld _ refl
      (or_else (leb 32 v.accounts) AccountsFull Done refl refl))
  rules-other (prepare p) =
      or_else (not (exists (v.account p.payer))) NoPayer _ refl
      (or_else (not (exists (v.account p.payee))) NoPayee _ refl
      (or_else (same p.payer p.payee) PayerIsPayee _ refl
      (or_else (not (same p.currency v.currency)) OtherCurrency _ refl
      (id_other (v.held (id_of p.id)) (content_of p)))))
  rules-other (fulfil sender id fulfilment) =
      payee-other (v.held (id_of id)) sender (λ t. fulfil_state t.state t.content (condition_of fulfilment))
      (λ t. fulfil_other t.state t.content (condition_of fulfilment))
  rules-other (abort sender id code) =
      payee-other (v.held (id_of id)) sender (λ t. abort_state t.state (code_of code)) (λ t. abort_other t.state (code_of code))
  rules-other (time instant places) =
      or_else (lt_z (instant_of instant) v.clock) ClockGoesBack _ refl
      (or_else (ltb places (length (v.due (instant_of instant)))) ListTooShort Done refl refl)
  rules-other (lookup id) = lookup_other (v.held (id_of id))

-- what the recount sees is of the shape
answer-other : (p : Past) (c : Call) → other (answer_to (recounted p) c) ≡ true
answer-other p c =
    rw (and-false (tests_shape c))
    (or_else (not (in_form c)) NotInForm (rules (recounted p) c) refl (rules-other (recounted p) c))

pub none_21 : (calls : List Came) (p : Past) → all (λ r. not (is21 r)) (recount_of p calls) ≡ true
unfolding recount_of
none_21 [] p = refl
none_21 (c ∷ cs) p = rw (answer-other p (call_of c)) (none_21 cs (past_with p c))
