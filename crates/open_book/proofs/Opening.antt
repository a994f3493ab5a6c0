-- Open: what a book afresh leaves, and that with the fields in form this is the step.
use mathlib.Core.Path.{◌≡◌, refl, sym, ◌∙◌}
use mathlib.Core.Bool.{Bool, true, false, cond, not, ◌&&◌}
use Prim.Native.Nat.{ℕ, ◌/◌, ◌%◌, ◌≤◌}
use lib.ListN.{length}
use lib.Dec.{eqb, leb}
use borrow.Author.Tests.{leb-true}
use Rattle.std.proofs.Common.{Option, Some, None}
use Rattle.octets.specs.Parts.{zeros}
use Rattle.octets.proofs.Tests.{both}
use Rattle.form.specs.Listings.{currency_form, date_time_form}
use Rattle.datetime.specs.Instant.{instant_of}
use Rattle.account.specs.declared.Head.{Head}
use Rattle.rules.specs.declared.Answer.TheVariants.{Done, NotInForm, BadLengths}
use Rattle.rules.specs.Answers.{is_done}
use Rattle.rules.specs.Calls.{Text, Call, «open», is_of}
use Rattle.rules.specs.Rules.{length_for}
use Rattle.shape.specs.Reading.{Book}
use Rattle.book.specs.Step.{Outcome, book_of}
use Rattle.book.specs.Inner.{kept}
use Rattle.book.proofs.Replies.{not_in_form, by_rules}
use Rattle.open_book.specs.Effect.{fresh_book, open_step}
use Rattle.open_book.specs.Inner.{fresh_for}

-- "The host lends an open book (1 to 1,024 records) and a finished book (1 to 65,535)"
abbrev pub lengths_ok : Book → Bool
lengths_ok b = length_for 1024 (length b.opened) && length_for 65535 (length b.ended)

few : (most n : ℕ) → length_for most n ≡ true → n / 160 ≤ most
few most n e =
    let p = both (eqb (n % 160) 0) (leb 1 (n / 160) && leb (n / 160) most) e in
    leb-true (n / 160) most (both (leb 1 (n / 160)) (leb (n / 160) most) p.1).1

-- so the head can note how many records each book has
pub few_records : (b : Book) → lengths_ok b ≡ true → (length b.opened / 160 ≤ 1024) × (length b.ended / 160 ≤ 65535)
few_records b e =
    let p = both (length_for 1024 (length b.opened)) (length_for 65535 (length b.ended)) e in
    (few 1024 (length b.opened) p.0, few 65535 (length b.ended) p.1)

module _ (b : Book) (currency instant : Text) where
  abbrev call : Call
  call = «open» currency instant (length b.opened) (length b.ended)

  abbrev formed : Bool
  formed = is_of currency_form currency && is_of date_time_form instant

  pub open_refused : formed ≡ false → kept b NotInForm 0 ≡ open_step b currency instant
  unfolding open_step
  open_refused f = not_in_form b (fresh_book b currency instant) call refl f

  module _ (e : formed ≡ true) where
    -- 20, or the book afresh
    abbrev left_with : Option Head → Outcome
    left_with None = kept b BadLengths 0
    left_with (Some h) = record {
      answer = Done;
      mark = 0;
      left = book_of h (zeros (length b.opened)) (zeros (length b.ended));
    }

    pub opened_by : (o : Option Head) → o ≡ fresh_for (length b.opened) (length b.ended) currency (instant_of instant) →
        left_with o ≡ open_step b currency instant
    unfolding open_step fresh_book
    opened_by o f = rw f (by (lengths_ok b) ∙ sym (by_rules b (fresh_book b currency instant) call refl e))
      where
        by : (t : Bool) →
            left_with (cond t (Some (fresh_book b currency instant).head) None)
            ≡ kept (cond (is_done (cond (not t) BadLengths Done)) (fresh_book b currency instant) b) (cond (not t) BadLengths Done) 0
        by true = refl
        by false = refl
