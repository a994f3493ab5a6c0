-- The calls one by one: a refused call keeps the book, an accepted one had a book of the shape, and leaves a head as the form asks.
use Prim.Native.Nat.{ℕ, ◌<◌}
use mathlib.Core.Path.{◌≡◌, refl, ap, sym, ◌∙◌}
use mathlib.Core.Bool.{Bool, true, false, false≢true, cond, not}
use mathlib.Core.List.{[]}
use native.Mathlib.Omega.{arith}
use lib.Dec.{eqb, leb, ltb}
use lib.IntN.{ℤ}
use lib.Signed.{le_z}
use lib.ListN.{length, get_or}
use borrow.Author.Tests.{eqb-true, leb-false, ltb-true}
use Rattle.form.specs.Listings.{name_form, amount_form}
use Rattle.amount.specs.Amount.{ten_thousandths}
use Rattle.uuid_text.specs.Id.{id_of}
use Rattle.datetime.specs.Instant.{instant_of}
use Rattle.account.specs.Head.{account_at, place_of}
use Rattle.account.specs.Position.{raised_by}
use Rattle.record.specs.Layout.{num, expiration_of, state_field, payer_field}
use Rattle.record.specs.Rows.{row}
use Rattle.rules.specs.declared.Answer.{Answer}
use Rattle.rules.specs.declared.Answer.TheVariants.{NotInForm, OutOfShape}
use Rattle.rules.specs.Answers.{is_done}
use Rattle.rules.specs.Calls as calls
use Rattle.rules.specs.Calls.{Text, PrepareText, Call, in_form, is_of, content_of, condition_of, code_of}
use Rattle.rules.specs.Rules.{highest_cap, exists, prepare_rules, rules}
use Rattle.shape.specs.Reading.{Book, account_of, open_rows, is_due, due_rows}
use Rattle.shape.specs.Seen.{seen}
use Rattle.shape.specs.Shape.{shape}
use Rattle.shape.specs.Sound.{Sound}
use Rattle.shape.proofs.Names.{length_accounts}
use Rattle.shape.proofs.Sound.{sound}
use Rattle.octets.proofs.Tests.{both}
use Rattle.record.proofs.Rows.{length-rows, rows_at}
use Rattle.book.specs.Step.{slot_of}
use Rattle.book.proofs.Decisions.{done_taken, held_open}
use Rattle.join.proofs.Joining.{name_held, all-passed}
use Rattle.join.proofs.Theorems as join
use Rattle.join.specs.Effect.{join_step}
use Rattle.prepare.proofs.Theorems as prepare
use Rattle.prepare.specs.Effect.{values_of, raised, reserved, prepare_step}
use Rattle.fulfil.proofs.Theorems as fulfil
use Rattle.fulfil.proofs.States.{ends as fulfil-ends}
use Rattle.fulfil.specs.Effect.{fulfil_step}
use Rattle.fulfil.specs.Inner.{by_state as fulfilled}
use Rattle.abort.proofs.Theorems as abort
use Rattle.abort.proofs.States.{ends as abort-ends}
use Rattle.abort.specs.Effect.{abort_step}
use Rattle.abort.specs.Inner.{by_state as aborted}
use Rattle.time.proofs.Theorems as time
use Rattle.time.specs.Effect.{places_in, settled_all, expired, time_step}
use Rattle.lookup.proofs.Theorems as lookup
use Rattle.lookup.specs.Effect.{lookup_step}
use Rattle.vaikshurd.specs.Steps.{FaceCall, step_of}
use Rattle.vaikshurd.specs.Steps as steps
use Rattle.vaikshurd.proofs.Filled.{Filled}
use Rattle.vaikshurd.proofs.Kept.{instant_fits, moved_filled, settled_filled, kept_payers, all_filled, timed_filled, joined_filled}

-- the call as the rules have it
abbrev pub call_of : FaceCall → Call
call_of (steps.join name cap) = calls.join name cap
call_of (steps.prepare p) = calls.prepare p
call_of (steps.fulfil sender id fulfilment) = calls.fulfil sender id fulfilment
call_of (steps.abort sender id code) = calls.abort sender id code
call_of (steps.time list instant) = calls.time instant (places_in list)
call_of (steps.lookup id) = calls.lookup id

-- its answer is 21 off the shape, 1 where a field is not in form, and else by the rules
abbrev answered : Bool → Bool → Answer → Answer
answered shaped formed a = cond (not shaped) OutOfShape (cond (not formed) NotInForm a)

pub answer_of : (c : FaceCall) (b : Book) → (step_of c b).answer ≡ answered (shape b) (in_form (call_of c)) (rules (seen b) (call_of c))
unfolding join_step prepare_step fulfil_step abort_step time_step lookup_step
answer_of (steps.join name cap) b = refl
answer_of (steps.prepare p) b = refl
answer_of (steps.fulfil sender id fulfilment) b = refl
answer_of (steps.abort sender id code) b = refl
answer_of (steps.time list instant) b = refl
answer_of (steps.lookup id) b = refl

-- what an accepted call tells
pub record Accepted (c : FaceCall) (b : Book) : Type 0 where
  pub shaped : shape b ≡ true
  pub formed : in_form (call_of c) ≡ true
  pub ruled : is_done (rules (seen b) (call_of c)) ≡ true

pub accepted : (c : FaceCall) (b : Book) → is_done (step_of c b).answer ≡ true → Accepted c b
accepted c b e =
    by (shape b) (in_form (call_of c)) refl refl (ap is_done (sym (answer_of c b)) ∙ e)
  where
    by : (s f : Bool) → shape b ≡ s → in_form (call_of c) ≡ f → is_done (answered s f (rules (seen b) (call_of c))) ≡ true → Accepted c b
    by true true p q e = record { shaped = p; formed = q; ruled = e }
    by true false p q e = absurd (false≢true e)
    by false f p q e = absurd (false≢true e)

pub refused_keeps : (c : FaceCall) (b : Book) → is_done (step_of c b).answer ≡ false → (step_of c b).left ≡ b
refused_keeps (steps.join name cap) b e = join.refused_keeps b name cap e
refused_keeps (steps.prepare p) b e = prepare.refused_keeps b p e
refused_keeps (steps.fulfil sender id fulfilment) b e = fulfil.refused_keeps b sender id fulfilment e
refused_keeps (steps.abort sender id code) b e = abort.refused_keeps b sender id code e
refused_keeps (steps.time list instant) b e = (time.refused_keeps b list instant e).0
refused_keeps (steps.lookup id) b e = lookup.keeps b id

pub shape-left : (c : FaceCall) (b : Book) → length b.head.accounts ≡ 32 → shape b ≡ true → shape (step_of c b).left ≡ true
shape-left (steps.join name cap) b long s = join.shape-kept b name cap long s
shape-left (steps.prepare p) b long s = prepare.shape-kept b p long s
shape-left (steps.fulfil sender id fulfilment) b long s = fulfil.shape-kept b sender id fulfilment long s
shape-left (steps.abort sender id code) b long s = abort.shape-kept b sender id code long s
shape-left (steps.time list instant) b long s = time.time_shape b list instant long s
shape-left (steps.lookup id) b long s = rw (lookup.keeps b id) s

-- what is left where the call is accepted
module _ (b : Book) (f : Filled b.head) where
  whole : shape b ≡ true → Sound b
  whole e = sound b f.all e

  join_filled : (name cap : Text) → is_done (join_step b name cap).answer ≡ true → Filled (join_step b name cap).left.head
  unfolding join_step
  join_filled name cap e =
      let a = accepted (steps.join name cap) b e in
      let h = b.head in
      let p = all-passed (ltb highest_cap (ten_thousandths cap)) (exists (account_of b name)) (leb 32 h.count) a.ruled in
      rw e (joined_filled h f (leb-false 32 h.count p.2) name cap (both (is_of name_form name) (is_of amount_form cap) a.formed).0)

  -- the payer has an account
  payer-held : (p : PrepareText) → is_done (prepare_rules (seen b) (content_of p) p.currency) ≡ true →
      exists (account_of b p.payer) ≡ true
  payer-held p e = by (exists (account_of b p.payer)) refl
    where
      by : (t : Bool) → exists (account_of b p.payer) ≡ t → t ≡ true
      by true g = refl
      by false g = absurd (false≢true (rw g at e))

  prepare_filled : (p : PrepareText) → is_done (prepare_step b p).answer ≡ true → Filled (prepare_step b p).left.head
  unfolding prepare_step reserved raised
  prepare_filled p e =
      let a = accepted (steps.prepare p) b e in
      let h = b.head in
      let held = name_held b p.payer (length_accounts h f.all (whole a.shaped).few) in
      let k = place_of h p.payer in
      rw e (moved_filled h f k (ltb-true k h.count (sym held ∙ payer-held p a.ruled))
      (raised_by (account_at h k).position (values_of p).amount))

  fulfil_filled : (sender id fulfilment : Text) → is_done (fulfil_step b sender id fulfilment).answer ≡ true →
      Filled (fulfil_step b sender id fulfilment).left.head
  unfolding fulfil_step
  fulfil_filled sender id fulfilment e =
      let a = accepted (steps.fulfil sender id fulfilment) b e in
      let s = whole a.shaped in
      let taken = done_taken b s sender (id_of id) (fulfilled (condition_of fulfilment)) (fulfil-ends (condition_of fulfilment)) a.ruled in
      rw e (settled_filled b.head f _ (held_open b s (id_of id) taken).body.payee (row b.opened (slot_of b (id_of id))))

  abort_filled : (sender id code : Text) → is_done (abort_step b sender id code).answer ≡ true →
      Filled (abort_step b sender id code).left.head
  unfolding abort_step
  abort_filled sender id code e =
      let a = accepted (steps.abort sender id code) b e in
      let s = whole a.shaped in
      let taken = done_taken b s sender (id_of id) (aborted (code_of code)) (abort-ends (code_of code)) a.ruled in
      rw e (settled_filled b.head f _ (held_open b s (id_of id) taken).body.payer (row b.opened (slot_of b (id_of id))))

  -- a record that is due has a payer with an account
  due-payer : Sound b → (t : ℤ) (k : ℕ) → k < length (open_rows b) → is_due t (get_or (open_rows b) k []) ≡ true →
      num payer_field (get_or (open_rows b) k []) < b.head.count
  due-payer s t k l e =
      let i : k < b.head.slots = omega (arith, length-rows b.head.slots b.opened) in
      let r = row b.opened k in
      let at = rows_at b.head.slots k b.opened [] i in
      let two = eqb-true (num state_field r) 2 (both (eqb (num state_field r) 2) (le_z (expiration_of r) t) (rw at at e)).0 in
      rw at ((s.slot k i).taken (rw two)).body.payer

  time_filled : (list instant : Text) → is_done (time_step b list instant).outcome.answer ≡ true →
      Filled (time_step b list instant).outcome.left.head
  unfolding time_step expired
  time_filled list instant e =
      let a = accepted (steps.time list instant) b e in
      let t = instant_of instant in
      let payers = kept_payers b.head.count (is_due t) (open_rows b) (due-payer (whole a.shaped) t) in
      rw e (timed_filled t (settled_all b.head (due_rows t b)) (instant_fits instant a.formed)
      (all_filled (due_rows t b) b.head f payers))

  pub filled_left : (c : FaceCall) → is_done (step_of c b).answer ≡ true → Filled (step_of c b).left.head
  filled_left (steps.join name cap) e = join_filled name cap e
  filled_left (steps.prepare p) e = prepare_filled p e
  filled_left (steps.fulfil sender id fulfilment) e = fulfil_filled sender id fulfilment e
  filled_left (steps.abort sender id code) e = abort_filled sender id code e
  filled_left (steps.time list instant) e = time_filled list instant e
  filled_left (steps.lookup id) e = rw (lookup.keeps b id) f
