-- An accepted prepare: one RESERVED transfer more, and the position of its payer has risen by the amount.
use Prim.Native.Nat.{ℕ, ◌+◌, ◌<◌}
use mathlib.Core.Path.{◌≡◌, refl, ap, sym, subst, ◌∙◌}
use mathlib.Core.Bool.{true}
use mathlib.Core.List.{List, [], map}
use native.Mathlib.Omega.{arith}
use lib.IntN.{ℤ, pos, ◌+ℤ◌}
use lib.ListN.{length, get_or, set, length-set}
use Rattle.octets.specs.Lists.{sum}
use mir.Syntax.{w64}
use mir.Val.{SFits}
use Rattle.form.specs.Listings.{amount_form, id_form, date_time_form, condition_form, packet_form}
use Rattle.amount.specs.Amount.{ten_thousandths}
use Rattle.datetime.specs.Instant.{instant_of}
use Rattle.account.specs.Position.{value, raised_by}
use Rattle.account.specs.Head.{account_at, place_of}
use Rattle.account.proofs.Positions.{value-raised}
use Rattle.record.specs.declared.Content.{Content}
use Rattle.record.specs.Layout.{Row, new_row, is_free}
use Rattle.record.proofs.Fields.{Sized, length-new}
use Rattle.record.proofs.Rows.{length-rows, rows-set, new_used}
use Rattle.octets.proofs.Search.{index-passes}
use Rattle.octets.proofs.Walk.{sum-set}
use Rattle.rules.specs.Answers.{is_done}
use Rattle.rules.specs.Calls.{PrepareText, prepare, in_form, is_of, content_of}
use Rattle.rules.specs.View.{reserved, Transfer}
use Rattle.rules.specs.Rules.{prepare_rules}
use Rattle.shape.specs.Reading.{Book, names_of, transfer_of, open_rows}
use Rattle.shape.specs.Seen.{seen}
use Rattle.shape.specs.Shape.{shape}
use Rattle.shape.specs.Sound.{Sound}
use Rattle.octets.proofs.Tests.{both}
use Rattle.book.specs.Step.{Outcome}
use Rattle.prepare.specs.Effect.{values_of, free_slot, new_number, raised, reserved as reserved_after, prepare_step}
use Rattle.prepare.specs.Inner.{names_fit, texts_fit, values_in, said, prepared_by}
use Rattle.prepare.proofs.Positioned.{names-kept}
use Rattle.prepare.proofs.Stepped.{worth_of, stepped}
use Rattle.prepare.proofs.Texts.{in_form_lem, all_five, values_sized, values_ranged}
use Rattle.prepare.proofs.Verdict.{answer-is, accepted}
use Rattle.ledger.specs.Ledger.{transfers_in, members_in, moved_at}
use Rattle.ledger.specs.Laws.{Prepared}
use Rattle.ledger.proofs.Done.{done-rules, done-left, left-wide}
use Rattle.ledger.proofs.Members.{name_found, members_moved}
use Rattle.ledger.proofs.Reading.{of_open, sum_transfers}
use Rattle.ledger.proofs.Records.{new_transfer_lem}
use Rattle.ledger.proofs.Texts.{instant_fits}

-- a prepare in form, of parties that have accounts, with a free slot for its record
module _
    (b : Book) (s : Sound b) (wide : length b.head.accounts ≡ 32) (p : PrepareText) (form : in_form (prepare p) ≡ true)
    (payer-is : place_of b.head p.payer < b.head.count) (payee-is : place_of b.head p.payee < b.head.count)
    (free : free_slot b < b.head.slots) where
  abbrev values : Content
  values = values_in p.id p.amount p.condition p.expiration p.packet

  abbrev payer : ℕ
  payer = place_of b.head p.payer

  abbrev payee : ℕ
  payee = place_of b.head p.payee

  abbrev new : Row
  new = new_row values payer payee (new_number b)

  abbrev names : List (List ℕ)
  names = names_of b.head

  abbrev new_transfer : Transfer
  new_transfer = record { content = content_of p; number = new_number b; state = reserved }

  -- the record reads as what the texts say
  texts_fit_lem : texts_fit p.id p.amount p.condition p.expiration p.packet ≡ true
  texts_fit_lem =
      (both (names_fit p.payer p.payee p.currency) (texts_fit p.id p.amount p.condition p.expiration p.packet)
      (sym (in_form_lem p) ∙ form)).1

  sized : Sized values
  sized = values_sized p.id p.amount p.condition p.expiration p.packet texts_fit_lem

  expiration_fits : SFits w64 (instant_of p.expiration)
  expiration_fits = instant_fits p.expiration
      (all_five (is_of id_form p.id) (is_of amount_form p.amount) (is_of condition_form p.condition)
      (is_of date_time_form p.expiration) (is_of packet_form p.packet) texts_fit_lem).3

  new_is : transfer_of names new ≡ new_transfer
  new_is = new_transfer_lem names values payer payee (new_number b) sized (content_of p)
      (values_ranged p.id p.amount p.condition p.expiration p.packet texts_fit_lem) expiration_fits
      (omega (arith, s.room, s.lengths.few_places)) refl
      (name_found b.head wide s.few p.payer payer-is) (name_found b.head wide s.few p.payee payee-is)
      (worth_of (ten_thousandths p.amount)) refl refl refl

  -- it stands in a slot that was free
  abbrev after : Book
  after = reserved_after b p

  names_same : names_of after.head ≡ names
  unfolding reserved_after raised
  names_same = names-kept b.head wide s.few payer payer-is _

  rows-after : open_rows after ≡ set (open_rows b) (free_slot b) new
  unfolding reserved_after raised values_of
  rows-after = rows-set b.head.slots (free_slot b) b.opened new (length-new values payer payee (new_number b))
      (omega (arith, s.lengths.opened)) free

  transfers_after : (f : Transfer → ℕ) → sum f (transfers_in after) ≡ f new_transfer + sum f (transfers_in b)
  unfolding reserved_after raised
  transfers_after f =
      let inside : free_slot b < length (open_rows b) = omega (arith, free, length-rows b.head.slots b.opened) in
      let old : of_open names f (get_or (open_rows b) (free_slot b) []) ≡ 0 = rw (index-passes is_free (open_rows b) [] inside) in
      let now : of_open names f new ≡ f new_transfer = rw (new_used values payer payee (new_number b) sized, new_is) in
      omega (
        arith,
        old,
        now,
        ap (sum (of_open names f)) rows-after,
        sum-set (of_open names f) (open_rows b) (free_slot b) new [] inside,
        sum_transfers after names names_same f,
        sum_transfers b names refl f,
      )

  -- the payer's account alone has another position
  abbrev raise : ℤ → ℤ
  raise z = z +ℤ pos (ten_thousandths p.amount)

  members_after : members_in after ≡ map (moved_at p.payer raise) (members_in b)
  unfolding reserved_after raised values_of
  members_after =
      let old = (account_at b.head payer).position in
      members_moved b.head wide s.few s.once payer payer-is (raised_by old values.amount) raise
      (value-raised old values.amount ∙ ap (λ (n : ℕ). value old +ℤ pos n) (worth_of (ten_thousandths p.amount)))
      ∙ ap (λ (key : List ℕ). map (moved_at key raise) (members_in b)) (name_found b.head wide s.few p.payer payer-is)

  prepared-after : Prepared b after p
  unfolding reserved_after raised
  prepared-after = record {
    transfers = transfers_after;
    members = members_after;
    frame = record { currency = refl; slots = refl; places = refl };
    clock = refl;
  }

-- what a prepare leaves
module _ (b : Book) (wide : length b.head.accounts ≡ 32) (p : PrepareText) where
  pub prepare_wide_lem : length (prepare_step b p).left.head.accounts ≡ 32
  unfolding prepare_step reserved_after raised
  prepare_wide_lem = left-wide b (reserved_after b p) (prepare p) wide (length-set b.head.accounts (place_of b.head p.payer) _ ∙ wide)

  pub prepare_law : Sound b → shape b ≡ true → is_done (prepare_step b p).answer ≡ true → Prepared b (prepare_step b p).left p
  unfolding prepare_step prepared_by
  prepare_law s e done =
      let form = (done-rules b (reserved_after b p) (prepare p) done).1 in
      let c = values_in p.id p.amount p.condition p.expiration p.packet in
      let told : is_done (prepare_rules (seen b) (said p.payer p.payee c) p.currency) ≡ true =
      ap (λ (o : Outcome). is_done o.answer) (stepped b p e form) ∙ done in
      let a = accepted b s wide p.payer p.payee p.currency c
      (ap is_done (answer-is b s wide p.payer p.payee p.currency c) ∙ told) in
      subst (λ (after : Book). Prepared b after p) (sym (done-left b (reserved_after b p) (prepare p) done))
      (prepared-after b s wide p form a.payer_is a.payee_is a.free)
