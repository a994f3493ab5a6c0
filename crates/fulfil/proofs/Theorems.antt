-- What a reader can rely on of a fulfil.
use mathlib.Core.Path.{◌≡◌, sym, ◌∙◌}
use mathlib.Core.Bool.{true, false}
use mathlib.Core.Logic.{inl}
use lib.ListN.{length}
use Rattle.uuid_text.specs.Id.{id_of}
use Rattle.record.specs.Layout.{Row, num, ended_row, payee_field}
use Rattle.record.proofs.Fields.{length-ended, ended_state, ended_by}
use Rattle.rules.specs.Answers.{is_done}
use Rattle.rules.specs.Calls.{Text, fulfil, condition_of}
use Rattle.shape.specs.Reading.{Book}
use Rattle.shape.specs.Shape.{shape}
use Rattle.shape.specs.Sound.{SoundRecord, SoundEnded}
use Rattle.shape.proofs.Sound.{sound}
use Rattle.book.specs.Step.{Outcome, slot_of}
use Rattle.book.proofs.Ends.{body_ended}
use Rattle.book.proofs.Decisions.{ended-kept, step_kept}
use Rattle.fulfil.specs.Effect.{fulfil_step}
use Rattle.fulfil.specs.Inner.{by_state, committed_at}
use Rattle.fulfil.proofs.States.{ends}
use Rattle.fulfil.proofs.Texts.{fulfilment_long}

module _ (b : Book) (sender id fulfilment : Text) where
  -- two answers that meet the promise are equal: number, mark, head and every lent byte
  pub one_answer : (x y : Outcome) → x ≡ fulfil_step b sender id fulfilment → y ≡ fulfil_step b sender id fulfilment → x ≡ y
  one_answer x y p q = p ∙ sym q

  -- "All but 0 change nothing lent and no state": by the definition of what is left
  pub refused_keeps : is_done (fulfil_step b sender id fulfilment).answer ≡ false → (fulfil_step b sender id fulfilment).left ≡ b
  unfolding fulfil_step
  refused_keeps e = rw e

  -- a book of the shape is left of the shape: the record ends in state 3, ended by 1, and the payee's position and the open amounts fall
  -- by the same
  pub shape-kept : length b.head.accounts ≡ 32 → shape b ≡ true → shape (fulfil_step b sender id fulfilment).left ≡ true
  unfolding fulfil_step
  shape-kept wide e =
      step_kept b (committed_at b (slot_of b (id_of id)) (condition_of fulfilment)) (fulfil sender id fulfilment) e (λ done form.
      ended-kept b (sound b wide e) wide sender (id_of id) (by_state (condition_of fulfilment)) (ends (condition_of fulfilment)) (num payee_field)
      (λ r s. s.payee) (ended_row 3 1 0 (condition_of fulfilment)) (finished (fulfilment_long sender id fulfilment form)) done)
    where
      finished : length (condition_of fulfilment) ≡ 32 → (r : Row) → length r ≡ 160 → SoundRecord b.head.count r →
          (length (ended_row 3 1 0 (condition_of fulfilment) r) ≡ 160)
          × SoundEnded b.head.count (ended_row 3 1 0 (condition_of fulfilment) r)
      finished sized r long s = (
        length-ended 3 1 0 (condition_of fulfilment) r ∙ long,
        record {
          ending = inl (ended_state 3 1 0 (condition_of fulfilment) r sized long, ended_by 3 1 0 (condition_of fulfilment) r sized long);
          body = body_ended b.head.count 3 1 0 (condition_of fulfilment) r sized long s;
        },
      )
