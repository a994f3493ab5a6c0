-- What a caller can count on beside the promise of join.
use mathlib.Core.Path.{◌≡◌, refl, sym, ◌∙◌}
use mathlib.Core.Bool.{Bool, true, false, false≢true, cond, not}
use lib.Dec.{leb, ltb}
use lib.ListN.{length}
use borrow.Author.Tests.{ltb-false, leb-false}
use Rattle.octets.proofs.Tests.{both}
use Rattle.form.specs.Listings.{name_form, amount_form}
use Rattle.amount.specs.Amount.{ten_thousandths}
use Rattle.account.specs.Head.{place_of}
use Rattle.rules.specs.declared.Answer.{Answer}
use Rattle.rules.specs.declared.Answer.TheVariants.{NotInForm}
use Rattle.rules.specs.Answers.{is_done}
use Rattle.rules.specs.Calls.{Text, join, is_of, in_form}
use Rattle.rules.specs.Rules.{highest_cap, exists, rules, answer_to}
use Rattle.shape.specs.Reading.{Book, account_of}
use Rattle.shape.specs.Shape.{shape}
use Rattle.shape.specs.Seen.{seen}
use Rattle.shape.proofs.Names.{length_accounts}
use Rattle.shape.proofs.Sound.{sound, shape_of}
use Rattle.book.specs.Step.{Outcome, book_of}
use Rattle.join.specs.Effect.{new_account, with_account, join_step}
use Rattle.join.proofs.Joining.{name_held, all-passed}
use Rattle.join.proofs.Kept.{join_sound}

module _ (b : Book) (name cap : Text) where
  -- the promise leaves one answer only
  pub one_answer : (x y : Outcome) → x ≡ join_step b name cap → y ≡ join_step b name cap → x ≡ y
  one_answer x y p q = p ∙ sym q

  -- "All but 0 change nothing lent and no state"
  pub refused_keeps : is_done (join_step b name cap).answer ≡ false → (join_step b name cap).left ≡ b
  unfolding join_step
  refused_keeps e = rw e

  -- a book of the shape is left one; a head has 32 account places
  pub shape-kept : length b.head.accounts ≡ 32 → shape b ≡ true → shape (join_step b name cap).left ≡ true
  unfolding join_step
  shape-kept long s = by (is_done (answer_to (seen b) (join name cap))) refl
    where
      in_form_lem : (t : Bool) (a : Answer) → is_done (cond (not t) NotInForm a) ≡ true → (t ≡ true) × (is_done a ≡ true)
      in_form_lem true a e = (refl, e)
      in_form_lem false a e = absurd (false≢true e)

      by : (t : Bool) → is_done (answer_to (seen b) (join name cap)) ≡ t →
          shape (cond t (book_of (with_account b.head (new_account name cap)) b.opened b.ended) b) ≡ true
      by false e = s
      by true e =
          let h = b.head in
          let f = in_form_lem (in_form (join name cap)) (rules (seen b) (join name cap)) (rw s at e) in
          let n = sound b long s in
          let held = name_held b name (length_accounts h long n.few) in
          let p = all-passed (ltb highest_cap (ten_thousandths cap)) (exists (account_of b name)) (leb 32 h.count) f.1 in
          shape_of (book_of (with_account h (new_account name cap)) b.opened b.ended)
          (join_sound b n name cap long (both (is_of name_form name) (is_of amount_form cap) f.0).0
          (ltb-false highest_cap (ten_thousandths cap) p.0) (ltb-false (place_of h name) h.count (sym held ∙ p.1))
          (leb-false 32 h.count p.2))
