-- What a reader can rely on of a prepare.
use mathlib.Core.Path.{◌≡◌, refl, ap, sym, ◌∙◌}
use mathlib.Core.Bool.{Bool, true, false}
use lib.ListN.{length}
use Rattle.octets.proofs.Tests.{both}
use Rattle.rules.specs.Answers.{is_done}
use Rattle.rules.specs.Calls.{PrepareText, prepare, in_form}
use Rattle.shape.specs.Reading.{Book}
use Rattle.shape.specs.Shape.{shape}
use Rattle.shape.proofs.Sound.{sound}
use Rattle.book.specs.Step.{Outcome}
use Rattle.book.proofs.Replies.{not_in_form}
use Rattle.prepare.specs.Effect.{reserved, prepare_step}
use Rattle.prepare.specs.Inner.{names_fit, texts_fit, values_in}
use Rattle.prepare.proofs.Texts.{in_form_lem, values_sized, values_ranged}
use Rattle.prepare.proofs.Stepped.{tested, stepped}
use Rattle.prepare.proofs.Kept.{left-shape}

module _ (b : Book) (p : PrepareText) where
  -- two answers that meet the promise are equal: number, mark, head and every lent byte
  pub one_answer : (x y : Outcome) → x ≡ prepare_step b p → y ≡ prepare_step b p → x ≡ y
  one_answer x y e f = e ∙ sym f

  -- "All but 0 change nothing lent and no state": by the definition of what is left
  pub refused_keeps : is_done (prepare_step b p).answer ≡ false → (prepare_step b p).left ≡ b
  unfolding prepare_step
  refused_keeps e = rw e

  formless : shape b ≡ true → in_form (prepare p) ≡ false → shape (prepare_step b p).left ≡ true
  unfolding prepare_step
  formless e f = ap (λ (o : Outcome). shape o.left) (sym (not_in_form b (reserved b p) (prepare p) (tested b p e) f)) ∙ e

  formed : length b.head.accounts ≡ 32 → shape b ≡ true → in_form (prepare p) ≡ true → shape (prepare_step b p).left ≡ true
  formed long e f =
      let names = names_fit p.payer p.payee p.currency in
      let texts = texts_fit p.id p.amount p.condition p.expiration p.packet in
      let fit = (both names texts (sym (in_form_lem p) ∙ f)).1 in
      ap (λ (o : Outcome). shape o.left) (sym (stepped b p e f))
      ∙ left-shape b (sound b long e) long e p.payer p.payee p.currency
      (values_in p.id p.amount p.condition p.expiration p.packet)
      (values_sized p.id p.amount p.condition p.expiration p.packet fit)
      (values_ranged p.id p.amount p.condition p.expiration p.packet fit)

  -- a prepare on a book of the shape leaves a book of the shape
  pub shape-kept : length b.head.accounts ≡ 32 → shape b ≡ true → shape (prepare_step b p).left ≡ true
  shape-kept long e = go (in_form (prepare p)) refl
    where
      go : (t : Bool) → in_form (prepare p) ≡ t → shape (prepare_step b p).left ≡ true
      go true f = formed long e f
      go false f = formless e f
