-- 21 is the shape's alone: no rule after it answers 21.
use Prim.Native.Nat.{ℕ, ◌+◌}
use mathlib.Core.Path.{◌≡◌, refl}
use mathlib.Core.Bool.{Bool, true, false, cond, not}
use mathlib.Core.List.{List, [], ◌∷◌}
use mathlib.Core.Option.{Option, none, some}
use lib.Dec.{eqb, leb, ltb}
use lib.Signed.{le_z, lt_z}
use lib.ListN.{length}
use borrow.Author.Tests.{not-true, eqb-false}
use Rattle.octets.specs.Lists.{all}
use Rattle.octets.specs.Parts.{same}
use Rattle.amount.specs.Amount.{ten_thousandths}
use Rattle.uuid_text.specs.Id.{id_of}
use Rattle.datetime.specs.Instant.{instant_of}
use Rattle.rules.specs.declared.Answer.{Answer}
use Rattle.rules.specs.declared.Answer.TheVariants.{Done, NotInForm, NoPayer, NoPayee, PayerIsPayee, OtherCurrency, OtherContent, Expired}
use Rattle.rules.specs.declared.Answer.TheVariants.{OpenBookFull, NoPlaceLeft, CapPassed, NotThePayee, NoMatch, ClockGoesBack}
use Rattle.rules.specs.declared.Answer.TheVariants.{ListTooShort, NameHeld, AccountsFull, CapTooHigh, Resend}
use Rattle.rules.specs.Answers.{number}
use Rattle.rules.specs.Calls.{Content, content_of, condition_of, condition_for, code_of, in_form}
use Rattle.rules.specs.View.{State, reserved, committed, aborted, expired, Transfer, View}
use Rattle.rules.specs.Rules.{Check, ◌gives◌, first_of, exists, highest_cap, same_content, passes_cap}
use Rattle.rules.specs.Rules.{id_rules, prepare_rules, fulfil_state, abort_state, payee_rules, lookup_rules, rules}
use Rattle.shape.specs.Reading.{Book}
use Rattle.shape.specs.Seen.{seen}
use Rattle.shape.specs.Shape.{shape}
use Rattle.octets.proofs.Tests.{both}
use Rattle.time.specs.Effect.{places_in}
use Rattle.vaikshurd.specs.Steps.{FaceCall, join, prepare, fulfil, abort, time, lookup, step_of}
use Rattle.vaikshurd.proofs.Accepted.{call_of, answer_of}

-- an answer that is not 21
abbrev other : Answer → Bool
other a = not (eqb (number a) 21)

other-either : (t : Bool) (a c : Answer) → other a ≡ true → other c ≡ true → other (cond t a c) ≡ true
other-either true a c e f = e
other-either false a c e f = f

other-first : (cs : List Check) (a : Answer) → all (λ (c : Check). other c.answer) cs ≡ true → other a ≡ true →
    other (first_of cs a) ≡ true
other-first [] a e f = f
other-first (c ∷ cs) a e f =
    let p = both (other c.answer) (all (λ (c : Check). other c.answer) cs) e in
    other-either c.holds c.answer (first_of cs a) p.0 (other-first cs a p.1 f)

module _ (v : View) where
  other_id : (t : Option Transfer) (c : Content) → other (id_rules v t c) ≡ true
  other_id none c =
      other-first (
      (le_z c.expiration v.clock gives Expired)
      ∷ (leb v.slots v.opened gives OpenBookFull)
      ∷ (leb v.places (v.opened + v.ended) gives NoPlaceLeft)
      ∷ (passes_cap (v.account c.payer) c.amount gives CapPassed)
      ∷ []) Done refl refl
  other_id (some t) c = other-either (same_content t.content c) Resend OtherContent refl refl

  other_prepare : (c : Content) (currency : List ℕ) → other (prepare_rules v c currency) ≡ true
  other_prepare c currency =
      other-first (
      (not (exists (v.account c.payer)) gives NoPayer)
      ∷ (not (exists (v.account c.payee)) gives NoPayee)
      ∷ (same c.payer c.payee gives PayerIsPayee)
      ∷ (not (same currency v.currency) gives OtherCurrency)
      ∷ []) (id_rules v (v.held c.id) c) refl (other_id (v.held c.id) c)

other_fulfil : (s : State) (c : Content) (fulfilment : List ℕ) → other (fulfil_state s c fulfilment) ≡ true
other_fulfil (committed f) c fulfilment = other-either (same f fulfilment) Resend OtherContent refl refl
other_fulfil expired c fulfilment = refl
other_fulfil (aborted d) c fulfilment = refl
other_fulfil reserved c fulfilment = other-either (same (condition_for fulfilment) c.condition) Done NoMatch refl refl

other_abort : (s : State) (code : ℕ) → other (abort_state s code) ≡ true
other_abort (committed f) code = refl
other_abort expired code = refl
other_abort (aborted d) code = other-either (eqb d code) Resend OtherContent refl refl
other_abort reserved code = refl

other-payee : (t : Option Transfer) (sender : List ℕ) (by_state : Transfer → Answer) → ((t : Transfer) → other (by_state t) ≡ true) →
    other (payee_rules t sender by_state) ≡ true
other-payee none sender by_state e = refl
other-payee (some t) sender by_state e = other-either (same t.content.payee sender) (by_state t) NotThePayee (e t) refl

other_lookup : (t : Option Transfer) → other (lookup_rules t) ≡ true
other_lookup none = refl
other_lookup (some t) = refl

other-rules : (v : View) (c : FaceCall) → other (rules v (call_of c)) ≡ true
other-rules v (join name cap) =
    other-first (
    (ltb highest_cap (ten_thousandths cap) gives CapTooHigh)
    ∷ (exists (v.account name) gives NameHeld)
    ∷ (leb 32 v.accounts gives AccountsFull)
    ∷ []) Done refl refl
other-rules v (prepare p) = other_prepare v (content_of p) p.currency
other-rules v (fulfil sender id fulfilment) =
    other-payee (v.held (id_of id)) sender (λ t. fulfil_state t.state t.content (condition_of fulfilment))
    (λ t. other_fulfil t.state t.content (condition_of fulfilment))
other-rules v (abort sender id code) =
    other-payee (v.held (id_of id)) sender (λ t. abort_state t.state (code_of code)) (λ t. other_abort t.state (code_of code))
other-rules v (time list instant) =
    other-first (
    (lt_z (instant_of instant) v.clock gives ClockGoesBack)
    ∷ (ltb (places_in list) (length (v.due (instant_of instant))) gives ListTooShort)
    ∷ []) Done refl refl
other-rules v (lookup id) = other_lookup (v.held (id_of id))

-- so on a book of the shape no call answers 21
pub not_21 : (c : FaceCall) (b : Book) → shape b ≡ true → number (step_of c b).answer ≡ 21 → ⊥
not_21 c b s e =
    eqb-false (number (step_of c b).answer) 21 (not-true (eqb (number (step_of c b).answer) 21) (rw (answer_of c b, s) answered)) e
  where
    answered : other (cond (not (in_form (call_of c))) NotInForm (rules (seen b) (call_of c))) ≡ true
    answered = other-either (not (in_form (call_of c))) NotInForm (rules (seen b) (call_of c)) refl (other-rules (seen b) c)
