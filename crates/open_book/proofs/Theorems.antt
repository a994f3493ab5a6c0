-- What a caller can count on beside the promise of open.
use mathlib.Core.Path.{◌≡◌, sym, ◌∙◌}
use mathlib.Core.Bool.{Bool, true, false, false≢true, cond, not}
use lib.ListN.{length}
use Rattle.rules.specs.declared.Answer.{Answer}
use Rattle.rules.specs.declared.Answer.TheVariants.{NotInForm}
use Rattle.rules.specs.Answers.{is_done}
use Rattle.rules.specs.Calls.{Text, Call, «open», in_form}
use Rattle.rules.specs.Rules.{rules}
use Rattle.shape.specs.Reading.{Book}
use Rattle.shape.specs.Seen.{seen}
use Rattle.shape.specs.Shape.{shape}
use Rattle.book.specs.Step.{Outcome}
use Rattle.open_book.specs.Effect.{open_step}
use Rattle.open_book.proofs.Anew.{fresh-shape}

module _ (b : Book) (currency instant : Text) where
  -- the promise leaves one answer only
  pub one_answer : (x y : Outcome) → x ≡ open_step b currency instant → y ≡ open_step b currency instant → x ≡ y
  one_answer x y p q = p ∙ sym q

  -- "Refused, it gives back the head it was given", and no byte is changed
  pub refused_keeps : is_done (open_step b currency instant).answer ≡ false → (open_step b currency instant).left ≡ b
  unfolding open_step
  refused_keeps e = rw e

  -- a book that was opened is of the shape, whatever bytes and head it was opened over
  pub opened_shape : is_done (open_step b currency instant).answer ≡ true → shape (open_step b currency instant).left ≡ true
  unfolding open_step
  opened_shape e = rw e (fresh-shape b currency instant (by (in_form call) (rules (seen b) call) e))
    where
      call : Call
      call = «open» currency instant (length b.opened) (length b.ended)

      by : (t : Bool) (a : Answer) → is_done (cond (not t) NotInForm a) ≡ true → is_done a ≡ true
      by true a e = e
      by false a e = absurd (false≢true e)
