-- What a call is answered before its rules: 21 and 1; and that the rest is its rules.
use mathlib.Core.Path.{◌≡◌}
use mathlib.Core.Bool.{true, false, cond, not, ◌&&◌}
use Rattle.rules.specs.declared.Answer.TheVariants.{NotInForm, OutOfShape}
use Rattle.rules.specs.Answers.{is_done}
use Rattle.rules.specs.Calls.{Call, in_form}
use Rattle.rules.specs.Rules.{tests_shape, rules, mark_of}
use Rattle.shape.specs.Reading.{Book}
use Rattle.shape.specs.Shape.{shape}
use Rattle.shape.specs.Seen.{seen}
use Rattle.book.specs.Step.{replied}
use Rattle.book.specs.Inner.{kept}

module _ (b after : Book) (c : Call) where
  pub out_of_shape_lem : tests_shape c ≡ true → shape b ≡ false → kept b OutOfShape 0 ≡ replied b c after
  out_of_shape_lem t e = rw (t, e)

  pub not_in_form : tests_shape c && not (shape b) ≡ false → in_form c ≡ false → kept b NotInForm 0 ≡ replied b c after
  not_in_form t e = rw (t, e)

  -- the book is of the shape where the call asks for it, and the fields are in form
  module _ (t : tests_shape c && not (shape b) ≡ false) (e : in_form c ≡ true) where
    pub by_rules : replied b c after ≡ record {
      answer = rules (seen b) c;
      mark = mark_of (seen b) c (is_done (rules (seen b) c));
      left = cond (is_done (rules (seen b) c)) after b;
    }
    by_rules = rw (t, e)
