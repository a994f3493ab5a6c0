-- A prepare by its values is the prepare by its texts: the amount in ten-thousandths is what its units and remainder are worth.
use Prim.Native.Nat.{ℕ}
use mathlib.Core.Path.{◌≡◌, refl, ap, sym, ◌∙◌}
use mathlib.Core.Bool.{Bool, true, false, cond, not, ◌&&◌}
use native.Mathlib.Omega.{arith}
use Rattle.amount.specs.Amount.{ten_thousandths, amount_of}
use Rattle.uuid_text.specs.Id.{id_of}
use Rattle.datetime.specs.Instant.{instant_of}
use Rattle.account.specs.Position.{worth}
use Rattle.record.specs.declared.Content.{Content}
use Rattle.rules.specs.declared.Answer.TheVariants.{NotInForm, OutOfShape}
use Rattle.rules.specs.Answers.{is_done}
use Rattle.rules.specs.Calls.{Content as Said, PrepareText, prepare, in_form, content_of, condition_of, packet_hash}
use Rattle.rules.specs.Rules.{tests_shape, prepare_rules, number_or}
use Rattle.shape.specs.Reading.{Book, held_transfer}
use Rattle.shape.specs.Shape.{shape}
use Rattle.shape.specs.Seen.{seen}
use Rattle.book.specs.Inner.{kept}
use Rattle.book.proofs.Replies.{out_of_shape_lem, not_in_form, by_rules}
use Rattle.prepare.specs.Effect.{values_of, new_number, reserved, prepare_step}
use Rattle.prepare.specs.Inner.{names_fit, texts_fit, values_in, said, reserved_by, prepared_by}
use Rattle.prepare.proofs.Texts.{in_form_lem}

pub worth_of : (v : ℕ) → worth (amount_of v) ≡ v
worth_of v = omega arith

module _ (b : Book) (p : PrepareText) where
  said-values : said p.payer p.payee (values_in p.id p.amount p.condition p.expiration p.packet) ≡ content_of p
  said-values = ap (λ (n : ℕ). record {
    id = id_of p.id;
    payer = p.payer;
    payee = p.payee;
    amount = n;
    condition = condition_of p.condition;
    expiration = instant_of p.expiration;
    packet = packet_hash p.packet;
  }) (worth_of (ten_thousandths p.amount))

  -- a call that asks for the shape, on a book of the shape
  pub tested : shape b ≡ true → tests_shape (prepare p) && not (shape b) ≡ false
  tested e = rw e

  pub stepped : shape b ≡ true → in_form (prepare p) ≡ true →
      prepared_by b p.payer p.payee p.currency (values_in p.id p.amount p.condition p.expiration p.packet)
      ≡ prepare_step b p
  unfolding values_of reserved reserved_by prepared_by prepare_step
  stepped e f =
      ap (λ (k : Said).
      record {
        answer = prepare_rules (seen b) k p.currency;
        mark = number_or (cond (is_done (prepare_rules (seen b) k p.currency)) (new_number b) 0) (held_transfer b (id_of p.id));
        left = cond (is_done (prepare_rules (seen b) k p.currency)) (reserved b p) b;
      }) said-values
      ∙ sym (by_rules b (reserved b p) (prepare p) (tested e) f)

  -- the fields in form, as the code asks for them
  abbrev fit : Bool
  fit = names_fit p.payer p.payee p.currency && texts_fit p.id p.amount p.condition p.expiration p.packet

  pub unshaped : shape b ≡ false → kept b OutOfShape 0 ≡ prepare_step b p
  unfolding prepare_step
  unshaped e = out_of_shape_lem b (reserved b p) (prepare p) refl e

  module _ (e : shape b ≡ true) where
    pub unformed : fit ≡ false → kept b NotInForm 0 ≡ prepare_step b p
    unfolding prepare_step
    unformed f = not_in_form b (reserved b p) (prepare p) (tested e) (in_form_lem p ∙ f)

    pub stepped_with : (c : Content) → (fit ≡ true) × (c ≡ values_in p.id p.amount p.condition p.expiration p.packet) →
        prepared_by b p.payer p.payee p.currency c ≡ prepare_step b p
    stepped_with c f = ap (prepared_by b p.payer p.payee p.currency) f.1 ∙ stepped e (in_form_lem p ∙ f.0)
