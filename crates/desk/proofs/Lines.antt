-- What a line answers, by how many words it has.
use Prim.Native.Nat.{ℕ, ◌+◌, ◌≤◌}
use mathlib.Core.Path.{◌≡◌, refl, sym, ap, ◌∙◌}
use mathlib.Core.Bool.{Bool, true, false, cond}
use mathlib.Core.List.{List, [], ◌∷◌}
use native.Mathlib.Omega.{arith}
use lib.ListN.{length, get_or}
use borrow.Author.Tests.{eq-eqb, ne_eqb}
use Rattle.std.specs.Prelude.{Option, Some, None}
use Rattle.rules.specs.Calls.{Text}
use Rattle.lines.specs.Lines.{pieces, well_built, words_of}
use Rattle.lines.proofs.Cut.{words_pieces}
use Rattle.shape.specs.Reading.{Book}
use Rattle.book.specs.declared.Answered.{Answered}
use Rattle.book.specs.Step.{Outcome, outcome}
use Rattle.time.specs.Effect.{TimeOutcome}
use Rattle.desk.specs.declared.Reply.{Reply}
use Rattle.desk.specs.declared.words.Word.{Word}
use Rattle.desk.specs.declared.words.Word.TheVariants.{Open, Join, Prepare, Fulfil, Abort, Time}
use Rattle.desk.specs.Words.{word_of, fields_in}
use Rattle.desk.specs.Desk.{beside, timed, no_call, call_on, called, line_step, field_of, line_outcome}

pub few : (w : Word) → fields_in w ≤ 8
few Open = omega arith
few Join = omega arith
few Prepare = omega arith
few Fulfil = omega arith
few Abort = omega arith
few Time = omega arith

module _ (b : Book) (list : List ℕ) where
  none_called : (o : Option Word) → call_on b list o [] ≡ no_call b list
  unfolding call_on
  none_called None = refl
  none_called (Some w) = rw (ne_eqb 0 (fields_in w + 1) (λ e. omega (arith, e)))

  first_word : (ws : List Text) → line_step b list ws ≡ call_on b list (word_of (get_or ws 0 [])) ws
  unfolding line_step
  first_word [] = sym (none_called _)
  first_word (word ∷ fields) = refl

  module _ (line : List ℕ) where
    -- the call that the line's first piece names, on the words of the line
    named_on : line_step b list (words_of line) ≡ call_on b list (word_of (field_of line 0)) (words_of line)
    unfolding words_of line_step
    named_on = by (well_built line)
      where
        by : (t : Bool) → line_step b list (cond t (pieces line) []) ≡ call_on b list (word_of (field_of line 0)) (cond t (pieces line) [])
        by true = first_word (pieces line)
        by false = sym (none_called _)

    pub line_unnamed : word_of (field_of line 0) ≡ None → no_call b list ≡ line_step b list (words_of line)
    unfolding call_on
    line_unnamed e = sym (named_on ∙ rw e)

    module _ (w : Word) (k n : ℕ) (named : Some w ≡ word_of (field_of line 0)) (asks : k ≡ fields_in w) (has : n ≡ length (words_of line)) where
      pub line_refused : (n ≡ k + 1 → ⊥) → no_call b list ≡ line_step b list (words_of line)
      unfolding call_on
      line_refused e = sym (named_on ∙ rw (sym named, ne_eqb (length (words_of line)) (fields_in w + 1) (λ l. e (has ∙ l ∙ rw (sym asks)))))

      pub line_called : n ≡ k + 1 → called b list w (field_of line) ≡ line_step b list (words_of line)
      unfolding call_on
      line_called e =
          let all : words_of line ≡ pieces line = words_pieces line (omega (arith, has, e)) in
          let many : length (pieces line) ≡ fields_in w + 1 = ap length (sym all) ∙ sym has ∙ e ∙ rw asks in
          sym (named_on ∙ rw (sym named, all, eq-eqb (length (pieces line)) (fields_in w + 1) many))

-- what the code hands back of a call
module _ (q : Reply) (r : Answered) (opened ended list : List ℕ) where
  pub plain_line : (x : Outcome) → q ≡ record { answer = r.answer; mark = r.mark; listed = 0; head = r.head } →
      outcome r opened ended ≡ x → line_outcome q opened ended list ≡ beside list x
  plain_line x e g = rw e (ap (beside list) g)

  pub timed_line : (x : TimeOutcome) → q ≡ record { answer = r.answer; mark = r.mark; listed = r.mark; head = r.head } →
      record { outcome = outcome r opened ended; list = list } ≡ x → line_outcome q opened ended list ≡ timed x
  timed_line x e g = rw e (ap timed g)
