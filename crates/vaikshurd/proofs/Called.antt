-- Calls through the face: what the code leaves is what the definitions say, for every call's step.
use Prim.Native.Nat.{ℕ}
use mathlib.Core.Path.{◌≡◌, ap, sym, ◌∙◌}
use mathlib.Core.Bool.{Bool, true, false, not}
use mathlib.Core.List.{List}
use lib.ListN.{length}
use borrow.Author.Tests.{not-true, not-false, eq-eqb, ne_eqb}
use Rattle.account.specs.declared.Head.{Head}
use Rattle.head_form.specs.Form.{head_from, is_formed}
use Rattle.head_form.proofs.Encoded.{formed_facts}
use Rattle.rules.specs.declared.Answer.TheVariants.{OutOfShape}
use Rattle.rules.specs.Calls.{Text}
use Rattle.shape.specs.Reading.{Book}
use Rattle.book.specs.declared.Answered.{Answered}
use Rattle.book.specs.Step.{Outcome, book_of, outcome}
use Rattle.open_book.specs.Effect.{open_step}
use Rattle.time.specs.Effect.{TimeOutcome, time_step}
use Rattle.vaikshurd.specs.Packed.{word}
use Rattle.vaikshurd.specs.Face.{left, head_left, after_step, lent, called, other_length, opening, list_left}

-- what the test of the form tells where it passes
formed : (head : List ℕ) (t : Bool) → t ≡ is_formed head → not t ≡ false → is_formed head ≡ true
formed head t e n = sym e ∙ not-false t n

pub formed_long : (head : List ℕ) (t : Bool) → t ≡ is_formed head → not t ≡ false → length head ≡ 2080
formed_long head t e n = (formed_facts head (formed head t e n)).0

module _ (head opened ended : List ℕ) where
  -- 21 on a head of another length or form
  pub formless : (step : Book → Outcome) (t : Bool) → t ≡ is_formed head → not t ≡ true →
      left (word OutOfShape 0) head opened ended ≡ called head opened ended step
  unfolding called
  formless step t e n = rw (sym e ∙ not-true t n)

  pub list_formless : (list : List ℕ) (instant : Text) (t : Bool) → t ≡ is_formed head → not t ≡ true →
      list ≡ list_left head opened ended list instant
  unfolding list_left
  list_formless list instant t e n = rw (sym e ∙ not-true t n)

  -- 1 or 20 at open, on one of another length
  pub other_length_lem : (currency instant : Text) → (length head ≡ 2080 → ⊥) →
      left (word (other_length currency instant) 0) head opened ended ≡ opening head opened ended currency instant
  unfolding opening
  other_length_lem currency instant n = rw (ne_eqb (length head) 2080 n)

  -- the decoded head h, the step's answer r on it, and the head's bytes after it
  module _ (h : Head) (d : h ≡ head_from head) (r : Answered) {w : ℕ} {head' opened' ended' : List ℕ}
      (g : (w ≡ word r.answer r.mark) × (head' ≡ head_left head r.answer r.head)) where
    after : (step : Book → Outcome) → outcome r opened' ended' ≡ step (book_of h opened ended) →
        left w head' opened' ended' ≡ after_step head (step (lent head opened ended))
    after step o = rw (g.0, g.1, ← d) (ap (after_step head) o)

    pub stepped : (step : Book → Outcome) (t : Bool) → t ≡ is_formed head → not t ≡ false →
        outcome r opened' ended' ≡ step (book_of h opened ended) → left w head' opened' ended' ≡ called head opened ended step
    unfolding called
    stepped step t e n o = rw (formed head t e n) (after step o)

    pub opens : (currency instant : Text) → length head ≡ 2080 →
        outcome r opened' ended' ≡ open_step (book_of h opened ended) currency instant →
        left w head' opened' ended' ≡ opening head opened ended currency instant
    unfolding opening
    opens currency instant e o = rw (eq-eqb (length head) 2080 e) (after (λ b. open_step b currency instant) o)

    pub times : (list list' : List ℕ) (instant : Text) (t : Bool) → t ≡ is_formed head → not t ≡ false →
        record { outcome = outcome r opened' ended'; list = list' } ≡ time_step (book_of h opened ended) list instant →
        (left w head' opened' ended' ≡ called head opened ended (λ b. (time_step b list instant).outcome))
        × (list' ≡ list_left head opened ended list instant)
    unfolding list_left
    times list list' instant t e n o = (
      stepped (λ b. (time_step b list instant).outcome) t e n (ap (λ (t : TimeOutcome). t.outcome) o),
      rw (formed head t e n, ← d) (ap (λ (t : TimeOutcome). t.list) o),
    )
