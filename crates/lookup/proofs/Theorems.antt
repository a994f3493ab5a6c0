-- What a caller can count on beside the promises of lookup.
use mathlib.Core.List.{[]}
use mathlib.Core.Path.{◌≡◌, sym, ◌∙◌}
use mathlib.Core.Bool.{Bool, true, false, cond}
use mathlib.Core.Path.{refl}
use Rattle.std.specs.Prelude.{Option}
use Rattle.rules.specs.Answers.{is_done}
use Rattle.rules.specs.Calls.{Text, lookup}
use Rattle.rules.specs.Rules.{answer_to}
use Rattle.shape.specs.Reading.{Book}
use Rattle.shape.specs.Seen.{seen}
use Rattle.book.specs.declared.Place.{Place}
use Rattle.book.specs.Step.{Outcome}
use Rattle.lookup.specs.Effect.{lookup_step, lookup_place, part_at}

module _ (b : Book) (id : Text) where
  -- the promises leave one answer and one place only
  pub one_answer : (x y : Outcome) → x ≡ lookup_step b id → y ≡ lookup_step b id → x ≡ y
  one_answer x y p q = p ∙ sym q

  pub one_place : (x y : Option Place) → x ≡ lookup_place b id → y ≡ lookup_place b id → x ≡ y
  one_place x y p q = p ∙ sym q

  -- a lookup changes nothing, refused or not
  pub keeps : (lookup_step b id).left ≡ b
  unfolding lookup_step
  keeps = by (is_done (answer_to (seen b) (lookup id)))
    where
      by : (t : Bool) → cond t b b ≡ b
      by true = refl
      by false = refl

  -- "refused, an empty part"
  pub refused_part : is_done (lookup_step b id).answer ≡ false → part_at b (lookup_place b id) ≡ []
  unfolding lookup_step lookup_place
  refused_part e = rw e
