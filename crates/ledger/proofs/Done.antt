-- A call that is done: its fields were in form, its rules answered 0, and it leaves what its promise says.
use mathlib.Core.Path.{◌≡◌, refl}
use mathlib.Core.Bool.{Bool, true, false, cond, not, ◌&&◌}
use lib.ListN.{length}
use Rattle.rules.specs.declared.Answer.{Answer}
use Rattle.rules.specs.declared.Answer.TheVariants.{NotInForm, OutOfShape}
use Rattle.rules.specs.Answers.{is_done}
use Rattle.rules.specs.Calls.{Call, in_form}
use Rattle.rules.specs.Rules.{tests_shape, rules}
use Rattle.shape.specs.Reading.{Book}
use Rattle.shape.specs.Seen.{seen}
use Rattle.book.specs.Step.{replied}
use Rattle.book.proofs.Decisions.{clash}

by_rules : (x y : Bool) (a : Answer) → is_done (cond x OutOfShape (cond (not y) NotInForm a)) ≡ true → (is_done a ≡ true) × (y ≡ true)
by_rules true y a e = clash e
by_rules false true a e = (e, refl)
by_rules false false a e = clash e

module _ (b after : Book) (c : Call) (done : is_done (replied b c after).answer ≡ true) where
  pub done-rules : (is_done (rules (seen b) c) ≡ true) × (in_form c ≡ true)
  done-rules = by_rules (tests_shape c && not (seen b).shaped) (in_form c) (rules (seen b) c) done

  pub done-left : (replied b c after).left ≡ after
  done-left = rw done

-- done or not, a call leaves as many account places as there are where it is done
pub left-wide : (b after : Book) (c : Call) → length b.head.accounts ≡ 32 → length after.head.accounts ≡ 32 →
    length (replied b c after).left.head.accounts ≡ 32
left-wide b after c old new = by (is_done (replied b c after).answer)
  where
    by : (t : Bool) → length (cond t after b).head.accounts ≡ 32
    by true = new
    by false = old
