-- What a reader of the line program can count on beside the promise of `reply_to`.
use Prim.Native.Nat.{ℕ, ◌+◌}
use Rattle.std.specs.Prelude.{Option, Some, None}
use mathlib.Core.Path.{◌≡◌, refl, ap, sym, ◌∙◌}
use mathlib.Core.Bool.{Bool, true, false, false≢true, cond, ◌&&◌}
use mathlib.Core.List.{List, [], ◌∷◌}
use lib.Dec.{eqb}
use lib.ListN.{length, get_or}
use Rattle.rules.specs.declared.Answer.TheVariants.{OutOfShape}
use Rattle.rules.specs.Answers.{is_done}
use Rattle.rules.specs.Calls.{Text}
use Rattle.account.specs.declared.Head.{Head}
use Rattle.shape.specs.Reading.{Book}
use Rattle.shape.specs.Shape.{shape}
use Rattle.book.specs.Inner.{kept}
use Rattle.open_book.proofs.Theorems as opening
use Rattle.join.specs.Effect.{join_step}
use Rattle.join.proofs.Theorems as joining
use Rattle.prepare.specs.Effect.{prepare_step}
use Rattle.prepare.proofs.Theorems as preparing
use Rattle.fulfil.specs.Effect.{fulfil_step}
use Rattle.fulfil.proofs.Theorems as fulfilling
use Rattle.abort.specs.Effect.{abort_step}
use Rattle.abort.proofs.Theorems as aborting
use Rattle.time.specs.Effect.{time_step}
use Rattle.time.proofs.Theorems as timing
use Rattle.desk.specs.declared.words.Word.{Word}
use Rattle.desk.specs.declared.words.Word.TheVariants.{Open, Join, Prepare, Fulfil, Abort, Time}
use Rattle.desk.specs.Words.{word_of, fields_in}
use Rattle.desk.specs.Desk.{LineOutcome, beside, no_call, call_on, called, line_step, never_opened}

module _ (b : Book) (list : List ℕ) where
  -- the promise leaves one answer only
  pub one_answer : (ws : List Text) (x y : LineOutcome) → x ≡ line_step b list ws → y ≡ line_step b list ws → x ≡ y
  one_answer ws x y p q = p ∙ sym q

  -- a line leaves the book and the list as they were
  abbrev pub Keeps : LineOutcome → Type 0
  Keeps o = (o.outcome.left ≡ b) × (o.list ≡ list)

  -- "All but 0 change nothing lent and no state"
  call_keeps : (w : Word) (field : ℕ → Text) → is_done (called b list w field).outcome.answer ≡ false → Keeps (called b list w field)
  unfolding called
  call_keeps Open field e = (opening.refused_keeps b (field 1) (field 2) e, refl)
  call_keeps Join field e = (joining.refused_keeps b (field 1) (field 2) e, refl)
  call_keeps Prepare field e = (preparing.refused_keeps b _ e, refl)
  call_keeps Fulfil field e = (fulfilling.refused_keeps b (field 1) (field 2) (field 3) e, refl)
  call_keeps Abort field e = (aborting.refused_keeps b (field 1) (field 2) (field 3) e, refl)
  call_keeps Time field e = timing.refused_keeps b list (field 1) e

  on_keeps : (o : Option Word) (ws : List Text) → is_done (call_on b list o ws).outcome.answer ≡ false → Keeps (call_on b list o ws)
  unfolding call_on
  on_keeps None ws e = (refl, refl)
  on_keeps (Some w) ws e =
      by (eqb (length ws) (fields_in w + 1)) (called b list w (λ k. get_or ws k [])) (call_keeps w (λ k. get_or ws k [])) e
    where
      by : (t : Bool) (call : LineOutcome) → (is_done call.outcome.answer ≡ false → Keeps call) →
          is_done (cond t call (no_call b list)).outcome.answer ≡ false → Keeps (cond t call (no_call b list))
      by true call keeps e = keeps e
      by false call keeps e = (refl, refl)

  pub refused_keeps : (ws : List Text) → is_done (line_step b list ws).outcome.answer ≡ false → Keeps (line_step b list ws)
  unfolding line_step
  refused_keeps [] e = (refl, refl)
  refused_keeps (word ∷ fields) e = on_keeps (word_of word) (word ∷ fields) e

-- the head of zeros is out of the shape, whatever the books hold
unopened : (b : Book) → b.head.slots ≡ 0 → shape b ≡ false
unfolding shape
unopened b e = rw e (by (eqb (length b.opened) 0) _)
  where
    by : (t rest : Bool) → (t && false) && rest ≡ false
    by true rest = refl
    by false rest = refl

abbrev pub is_open : Word → Bool
is_open Open = true
is_open Join = false
is_open Prepare = false
is_open Fulfil = false
is_open Abort = false
is_open Time = false

-- whether a line's first word is OPEN
abbrev pub opened_by : Option Word → Bool
opened_by None = false
opened_by (Some w) = is_open w

abbrev pub opens : List Text → Bool
opens ws = opened_by (word_of (get_or ws 0 []))

-- "Before an accepted OPEN the other calls answer 21": 01's "Every call but open tests this first" is all that it takes
module _ (b : Book) (list : List ℕ) (never : b.head ≡ never_opened) where
  shapeless : shape b ≡ false
  shapeless = unopened b (ap (λ (h : Head). h.slots) never)

  abbrev pub out_of_shape : LineOutcome
  out_of_shape = beside list (kept b OutOfShape 0)

  pub other_calls : (w : Word) (field : ℕ → Text) → is_open w ≡ false → called b list w field ≡ out_of_shape
  unfolding called join_step prepare_step fulfil_step abort_step time_step
  other_calls Open field e = absurd (false≢true (sym e))
  other_calls Join field e = rw shapeless
  other_calls Prepare field e = rw shapeless
  other_calls Fulfil field e = rw shapeless
  other_calls Abort field e = rw shapeless
  other_calls Time field e = rw shapeless

  none_done : (w : Word) (field : ℕ → Text) → is_open w ≡ false → is_done (called b list w field).outcome.answer ≡ false
  unfolding called join_step prepare_step fulfil_step abort_step time_step
  none_done Open field e = absurd (false≢true (sym e))
  none_done Join field e = rw shapeless
  none_done Prepare field e = rw shapeless
  none_done Fulfil field e = rw shapeless
  none_done Abort field e = rw shapeless
  none_done Time field e = rw shapeless

  none_done_on : (o : Option Word) (ws : List Text) → opened_by o ≡ false → is_done (call_on b list o ws).outcome.answer ≡ false
  unfolding call_on
  none_done_on None ws e = refl
  none_done_on (Some w) ws e =
      by (eqb (length ws) (fields_in w + 1)) (called b list w (λ k. get_or ws k [])) (none_done w (λ k. get_or ws k []) e)
    where
      by : (t : Bool) (call : LineOutcome) → is_done call.outcome.answer ≡ false →
          is_done (cond t call (no_call b list)).outcome.answer ≡ false
      by true call e = e
      by false call e = refl

  no_open : (ws : List Text) → opens ws ≡ false → is_done (line_step b list ws).outcome.answer ≡ false
  unfolding line_step
  no_open [] e = refl
  no_open (word ∷ fields) e = none_done_on (word_of word) (word ∷ fields) e

  -- and every line but an accepted OPEN leaves the book as it is, never opened
  pub stays : (ws : List Text) → opens ws && is_done (line_step b list ws).outcome.answer ≡ false → Keeps b list (line_step b list ws)
  stays ws e = refused_keeps b list ws (by (opens ws) (no_open ws) e)
    where
      by : (t : Bool) → (t ≡ false → is_done (line_step b list ws).outcome.answer ≡ false) →
          t && is_done (line_step b list ws).outcome.answer ≡ false → is_done (line_step b list ws).outcome.answer ≡ false
      by true none e = e
      by false none e = none refl
