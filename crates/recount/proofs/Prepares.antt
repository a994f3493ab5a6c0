-- An accepted prepare adds one transfer, in the book as in the past, and its payer's position stays within its cap.
use Prim.Native.Nat.{ℕ, suc, ◌+◌, ◌≤◌}
use mathlib.Core.Path.{◌≡◌, refl, sym, ap, ◌∙◌}
use mathlib.Core.Bool.{Bool, true, false, false≢true, cond}
use mathlib.Core.List.{List}
use mathlib.Core.Option.{Option, none, some}
use native.Mathlib.Omega.{arith}
use lib.ListN.{length}
use lib.IntN.{pos, ◌+ℤ◌}
use Rattle.octets.specs.Lists.{first, count, sum}
use Rattle.octets.specs.Parts.{same}
use Rattle.octets.proofs.Equal.{same_equal}
use Rattle.amount.specs.Amount.{ten_thousandths}
use Rattle.uuid_text.specs.Id.{id_of}
use Rattle.rules.specs.declared.Answer.{Answer}
use Rattle.rules.specs.Calls.{PrepareText, prepare, content_of}
use Rattle.rules.specs.View.{reserved, Transfer}
use Rattle.rules.specs.Rules.{exists, passes_cap}
use Rattle.shape.specs.Reading.{Book, open_count}
use Rattle.shape.specs.Shape.{shape}
use Rattle.octets.proofs.Walk.{count-sum}
use Rattle.ledger.specs.Ledger.{is_reserved, moved_at}
use Rattle.ledger.specs.Laws.{SeenIn, Prepared}
use Rattle.recount.specs.Recount.{Past, Grant, sent, received, position_of, has_id, standing_of, recounted, entered}
use Rattle.recount.specs.Demand.{within_cap}
use Rattle.recount.proofs.Sums.{one_if, first-none, first_test, count-not}
use Rattle.recount.proofs.Given.{wide}
use Rattle.recount.proofs.Agrees.{transfers_by, grants_by, keyed, stake, Orderly, Agrees, opened_agree, ended_agree}
use Rattle.recount.proofs.Positions.{position-same, position-raised, within, within-sums, room_left, moved_by, and-true, and-false}
use Rattle.recount.proofs.Allowed.{Allowed}
use Rattle.recount.proofs.Noted.{sum_idle, grants_kept}
use Rattle.recount.proofs.Stays.{members_stay, agrees_still}

-- who has an account is no stranger
known : (L : List Transfer) (gs : List Grant) (name key : List ℕ) → exists (standing_of L (first (keyed name) gs)) ≡ true →
    first (keyed key) gs ≡ none → same name key ≡ false
known L gs name key e n = go (same name key) refl
  where
    go : (d : Bool) → same name key ≡ d → d ≡ false
    go true s =
        absurd (false≢true (sym (ap (λ k. exists (standing_of L (first (keyed k) gs))) (same_equal name key s)
        ∙ ap (λ o. exists (standing_of L o)) n) ∙ e))
    go false s = refl

module _ (p : Past) (t : PrepareText) (answer : Answer) (al : Allowed (recounted p) t) where
  abbrev past' : Past
  past' = entered p (prepare t) answer

  abbrev amount : ℕ
  amount = ten_thousandths t.amount

  abbrev added : ℕ → Transfer
  added n = record { content = content_of t; number = suc n; state = reserved }

  sums-added : (f : Transfer → ℕ) → sum f (transfers_by past') ≡ sum f (transfers_by p) + f (added (length (transfers_by p)))
  sums-added f = omega (arith, sum_idle p.entries (record { call = prepare t; answer = answer }) (λ c. refl) f)

  sent-added : (key : List ℕ) → sum (sent key) (transfers_by past') ≡ sum (sent key) (transfers_by p) + cond (same t.payer key) amount 0
  sent-added key = omega (arith, sums-added (sent key), and-true (same t.payer key) amount)

  received-added : (key : List ℕ) → sum (received key) (transfers_by past') ≡ sum (received key) (transfers_by p)
  received-added key = omega (arith, sums-added (received key), and-false (same t.payee key) amount)

  once_added : Orderly (transfers_by p) (grants_by p) → (id : List ℕ) → count (has_id id) (transfers_by past') ≤ 1
  once_added o id = go (same (id_of t.id) id) refl
    where
      counted : count (has_id id) (transfers_by past') ≡ count (has_id id) (transfers_by p) + one_if (same (id_of t.id) id)
      counted =
          omega (
            arith,
            count-sum (has_id id) (transfers_by past'),
            count-sum (has_id id) (transfers_by p),
            sums-added (λ u. one_if (has_id id u)),
          )

      go : (d : Bool) → same (id_of t.id) id ≡ d → count (has_id id) (transfers_by past') ≤ 1
      go true s =
          omega (
            arith,
            counted,
            ap one_if s,
            ap (λ k. count (has_id k) (transfers_by p)) (same_equal (id_of t.id) id s),
            first-none (has_id (id_of t.id)) (transfers_by p) al.fresh,
          )
      go false s = omega (arith, counted, ap one_if s, o.once id)

  strangers_added : Orderly (transfers_by p) (grants_by p) → (key : List ℕ) → first (keyed key) (grants_by p) ≡ none →
      sum (stake key) (transfers_by past') ≡ 0
  strangers_added o key e =
      omega (
        arith,
        sums-added (stake key),
        o.strangers key e,
        ap (λ d. cond d amount 0) (known (transfers_by p) (grants_by p) t.payer key al.payer e),
        ap (λ d. cond d amount 0) (known (transfers_by p) (grants_by p) t.payee key al.payee e),
      )

  -- "10 if position + amount > cap": the payer's check, and nobody else's position moves
  caps_added : (key : List ℕ) (o : Option Grant) → first (keyed key) (grants_by p) ≡ o → within_cap (standing_of (transfers_by p) o) ≡ true →
      within_cap (standing_of (transfers_by past') o) ≡ true
  caps_added key none e w = refl
  caps_added key (some g) e w = within (transfers_by past') g.key g.cap (go (same t.payer g.key) refl)
    where
      go : (d : Bool) → same t.payer g.key ≡ d →
          sum (sent g.key) (transfers_by past') ≤ g.cap + sum (received g.key) (transfers_by past')
      go true s =
          let k : t.payer ≡ key =
          same_equal t.payer g.key s ∙ same_equal g.key key (first_test (keyed key) (grants_by p) g e) in
          let c : passes_cap (standing_of (transfers_by p) (some g)) amount ≡ false =
          ap (λ o. passes_cap (standing_of (transfers_by p) o) amount) (sym (ap (λ n. first (keyed n) (grants_by p)) k ∙ e)) ∙ al.cap in
          omega (
            arith,
            room_left (transfers_by p) g.key g.cap amount c,
            sent-added g.key,
            received-added g.key,
            ap (λ d. cond d amount 0) s,
          )
      go false s =
          omega (
            arith,
            within-sums (transfers_by p) g.key g.cap w,
            sent-added g.key,
            received-added g.key,
            ap (λ d. cond d amount 0) s,
          )

  orderly_added : Orderly (transfers_by p) (grants_by p) → Orderly (transfers_by past') (grants_by p)
  orderly_added o = record {
    once = once_added o;
    strangers = strangers_added o;
    caps = λ key. caps_added key (first (keyed key) (grants_by p)) refl (o.caps key);
  }

  position-added : (key : List ℕ) →
      cond (same t.payer key) (position_of (transfers_by p) key +ℤ pos amount) (position_of (transfers_by p) key)
      ≡ position_of (transfers_by past') key
  position-added key = go (same t.payer key) (sent-added key)
    where
      go : (d : Bool) → sum (sent key) (transfers_by past') ≡ sum (sent key) (transfers_by p) + cond d amount 0 →
          cond d (position_of (transfers_by p) key +ℤ pos amount) (position_of (transfers_by p) key) ≡ position_of (transfers_by past') key
      go true h = position-raised (transfers_by p) (transfers_by past') key amount (omega (arith, received-added key))
      go false h = position-same (transfers_by p) (transfers_by past') key (omega (arith, received-added key))

  pub prepared-agrees : (b after : Book) → Agrees b p → SeenIn b → Prepared b after t → shape after ≡ true → wide after →
      Agrees after past'
  prepared-agrees b after a seen l s w =
      agrees_still b after p a (prepare t) answer s w l.frame l.clock
      (members_stay b after p a (prepare t) answer (moved_at t.payer (λ z. z +ℤ pos amount)) l.members refl
      (λ g. moved_by (transfers_by p) (transfers_by past') t.payer (λ z. z +ℤ pos amount) g (position-added g.key)))
      (λ f. omega (arith, l.transfers f, sums-added f, a.transfers f, ap (λ n. f (added n)) number))
      (rw (grants_kept p.entries (record { call = prepare t; answer = answer }) refl) (orderly_added a.orderly))
    where
      -- "A new acceptance number is one more than the records in both books"
      number : open_count b + b.head.finished ≡ length (transfers_by p)
      number =
          omega (arith, opened_agree b p a seen, ended_agree b p a seen, count-not (λ u. is_reserved u.state) (transfers_by p))
