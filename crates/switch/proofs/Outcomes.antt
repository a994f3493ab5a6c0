-- What is told of a line is the answer of its outcome.
use Prim.Native.Nat.{ℕ}
use mathlib.Core.Path.{◌≡◌, ap, sym, ◌∙◌}
use mathlib.Core.List.{List, ◌++◌}
use lib.ListN.{length, take, drop}
use lib.Seq.{take_at}
use Rattle.rules.specs.Answers.{number, code}
use Rattle.shape.specs.Reading.{Book}
use Rattle.lines.specs.Lines.{words_of}
use Rattle.desk.specs.declared.Reply.{Reply}
use Rattle.desk.specs.Desk.{line_step, line_outcome}
use Rattle.answer_line.specs.Text.{answer_text}
use Rattle.book.specs.Step.{book_of}
use Rattle.switch.specs.Switch.{printed, answered}

module _ (b : Book) (list line : List ℕ) (r : Reply) (opened ended after : List ℕ) (n m long : ℕ) (old text : List ℕ) where
  pub told : line_outcome r opened ended after ≡ line_step b list (words_of line) → n ≡ number r.answer → m ≡ code r.answer →
      long ≡ length (answer_text n m r.mark after r.listed) →
      text ≡ answer_text n m r.mark after r.listed ++ drop long old →
      record { left = book_of r.head opened ended; list = after; text = take long text } ≡ answered b list line
  unfolding answered
  told e en em l t =
      let front : take long text ≡ answer_text n m r.mark after r.listed =
      ap (take long) t ∙ take_at (answer_text n m r.mark after r.listed) (drop long old) long (sym l) in
      rw (front, en, em) (ap printed e)
