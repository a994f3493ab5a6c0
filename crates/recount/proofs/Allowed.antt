-- What an accepted call saw: each of its checks passed.
use Prim.Native.Nat.{ℕ, ◌+◌}
use mathlib.Core.Path.{◌≡◌, refl, sym, ◌∙◌}
use mathlib.Core.Bool.{Bool, true, false, false≢true, cond, not, ◌&&◌}
use mathlib.Core.List.{List}
use mathlib.Core.Option.{Option, none, some}
use lib.Dec.{eqb, leb, ltb}
use lib.Signed.{le_z}
use Rattle.octets.specs.Parts.{same}
use Rattle.amount.specs.Amount.{ten_thousandths}
use Rattle.uuid_text.specs.Id.{id_of}
use Rattle.rules.specs.declared.Answer.{Answer}
use Rattle.rules.specs.declared.Answer.TheVariants.{NotInForm, NoPayer, NoPayee, PayerIsPayee, OtherCurrency, OtherContent, Expired, OpenBookFull, NoPlaceLeft, CapPassed, NotThePayee, NoMatch, NameHeld, CapTooHigh, OutOfShape, Resend}
use Rattle.rules.specs.Answers.{is_done}
use Rattle.rules.specs.Calls.{Text, PrepareText, Content, Call, join, prepare, fulfil, abort, in_form, condition_of, condition_for, content_of, code_of}
use Rattle.rules.specs.View.{State, reserved, committed, aborted, expired, Transfer, View}
use Rattle.rules.specs.Rules.{exists, highest_cap, passes_cap, new_rules, id_rules, same_content, payee_rules, fulfil_state, abort_state, tests_shape, rules, answer_to}

-- a check that refuses did not hold, and one that has to hold did
refused : (t : Bool) (a rest : Answer) → is_done a ≡ false → is_done (cond t a rest) ≡ true → (t ≡ false) × (is_done rest ≡ true)
refused true a rest r e = absurd (false≢true (sym r ∙ e))
refused false a rest r e = (refl, e)

required : (t : Bool) (a rest : Answer) → is_done a ≡ false → is_done (cond t rest a) ≡ true → (t ≡ true) × (is_done rest ≡ true)
required true a rest r e = (refl, e)
required false a rest r e = absurd (false≢true (sym r ∙ e))

not-false : (t : Bool) → not t ≡ false → t ≡ true
not-false true e = refl
not-false false e = sym e

none_there : {A : Type 0} (o : Option A) → exists o ≡ false → o ≡ none
none_there none e = refl
none_there (some x) e = absurd (false≢true (sym e))

-- the transfer that an accepted end is of
pub record Ending (v : View) (sender id : Text) : Type 0 where
  pub transfer : Transfer
  pub found : v.held (id_of id) ≡ some transfer
  pub payee : same transfer.content.payee sender ≡ true
  pub reserved : transfer.state ≡ reserved

pub record Allowed (v : View) (p : PrepareText) : Type 0 where
  pub payer : exists (v.account p.payer) ≡ true
  pub payee : exists (v.account p.payee) ≡ true
  pub fresh : v.held (id_of p.id) ≡ none
  pub cap : passes_cap (v.account p.payer) (ten_thousandths p.amount) ≡ false

module _ (v : View) where
  -- past 21 and 1
  formed : (c : Call) → is_done (answer_to v c) ≡ true → (not (in_form c) ≡ false) × (is_done (rules v c) ≡ true)
  formed c e = refused (not (in_form c)) NotInForm (rules v c) refl (refused (tests_shape c && not v.shaped) OutOfShape _ refl e).1

  pub in_form_lem : (c : Call) → is_done (answer_to v c) ≡ true → in_form c ≡ true
  in_form_lem c e = not-false (in_form c) (formed c e).0

  by_rules : (c : Call) → is_done (answer_to v c) ≡ true → is_done (rules v c) ≡ true
  by_rules c e = (formed c e).1

  pub join_new : (name cap : Text) → is_done (answer_to v (join name cap)) ≡ true → v.account name ≡ none
  join_new name cap e =
      let f = refused (ltb highest_cap (ten_thousandths cap)) CapTooHigh _ refl (by_rules (join name cap) e) in
      none_there (v.account name) (refused (exists (v.account name)) NameHeld _ refl f.1).0

  id_free : (o : Option Transfer) (c : Content) → is_done (id_rules v o c) ≡ true → (o ≡ none) × (is_done (new_rules v c) ≡ true)
  id_free none c e = (refl, e)
  id_free (some t) c e = by (same_content t.content c) e
    where
      by : (s : Bool) → is_done (cond s Resend OtherContent) ≡ true → (some t ≡ none) × (is_done (new_rules v c) ≡ true)
      by true e = absurd (false≢true e)
      by false e = absurd (false≢true e)

  pub prepare_allowed : (p : PrepareText) → is_done (answer_to v (prepare p)) ≡ true → Allowed v p
  prepare_allowed p e =
      let c = content_of p in
      let f = refused (not (exists (v.account p.payer))) NoPayer _ refl (by_rules (prepare p) e) in
      let g = refused (not (exists (v.account p.payee))) NoPayee _ refl f.1 in
      let h = refused (same p.payer p.payee) PayerIsPayee _ refl g.1 in
      let k = refused (not (same p.currency v.currency)) OtherCurrency _ refl h.1 in
      let n = id_free (v.held (id_of p.id)) c k.1 in
      let x = refused (le_z c.expiration v.clock) Expired _ refl n.1 in
      let o = refused (leb v.slots v.opened) OpenBookFull _ refl x.1 in
      let l = refused (leb v.places (v.opened + v.ended)) NoPlaceLeft _ refl o.1 in
      record {
        payer = not-false (exists (v.account p.payer)) f.0;
        payee = not-false (exists (v.account p.payee)) g.0;
        fresh = n.0;
        cap = (refused (passes_cap (v.account p.payer) (ten_thousandths p.amount)) CapPassed _ refl l.1).0;
      }

  module _ (sender id : Text) where
    -- the payee of a transfer that is held, and what is answered on its state
    by_payee_lem : (by_state : Transfer → Answer) (o : Option Transfer) → v.held (id_of id) ≡ o → is_done (payee_rules o sender by_state) ≡ true →
        (t : Transfer) × (v.held (id_of id) ≡ some t) × (same t.content.payee sender ≡ true) × (is_done (by_state t) ≡ true)
    by_payee_lem by_state none f e = absurd (false≢true e)
    by_payee_lem by_state (some t) f e =
        let p = required (same t.content.payee sender) NotThePayee (by_state t) refl e in
        (t, f, p.0, p.1)

    by_fulfilment : (s : State) (c : Content) (fulfilment : List ℕ) → is_done (fulfil_state s c fulfilment) ≡ true →
        (s ≡ reserved) × (same (condition_for fulfilment) c.condition ≡ true)
    by_fulfilment reserved c f e = (refl, (required (same (condition_for f) c.condition) NoMatch _ refl e).0)
    by_fulfilment (committed g) c f e = absurd (false≢true (refused (same g f) Resend OtherContent refl e).1)
    by_fulfilment (aborted n) c f e = absurd (false≢true e)
    by_fulfilment expired c f e = absurd (false≢true e)

    by_code : (s : State) (code : ℕ) → is_done (abort_state s code) ≡ true → s ≡ reserved
    by_code reserved code e = refl
    by_code (committed g) code e = absurd (false≢true e)
    by_code (aborted n) code e = absurd (false≢true (refused (eqb n code) Resend OtherContent refl e).1)
    by_code expired code e = absurd (false≢true e)

    pub fulfil_allowed : (fulfilment : Text) → is_done (answer_to v (fulfil sender id fulfilment)) ≡ true →
        (e : Ending v sender id) × (same (condition_for (condition_of fulfilment)) e.transfer.content.condition ≡ true)
    fulfil_allowed fulfilment e =
        let r = by_payee_lem (λ t. fulfil_state t.state t.content (condition_of fulfilment)) (v.held (id_of id)) refl
        (by_rules (fulfil sender id fulfilment) e) in
        let s = by_fulfilment r.0.state r.0.content (condition_of fulfilment) r.3 in
        (record { transfer = r.0; found = r.1; payee = r.2; reserved = s.0 }, s.1)

    pub abort_allowed : (code : Text) → is_done (answer_to v (abort sender id code)) ≡ true → Ending v sender id
    abort_allowed code e =
        let r = by_payee_lem (λ t. abort_state t.state (code_of code)) (v.held (id_of id)) refl (by_rules (abort sender id code) e) in
        record { transfer = r.0; found = r.1; payee = r.2; reserved = by_code r.0.state (code_of code) r.3 }
