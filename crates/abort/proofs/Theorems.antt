-- What a reader can rely on of an abort.
use mathlib.Core.Path.{◌≡◌, sym, ◌∙◌}
use mathlib.Core.Bool.{true, false}
use mathlib.Core.Logic.{inl, inr}
use lib.ListN.{length}
use Rattle.octets.specs.Parts.{zeros}
use Rattle.octets.proofs.Stores.{length-zeros}
use Rattle.uuid_text.specs.Id.{id_of}
use Rattle.record.specs.Layout.{Row, num, ended_row, payer_field}
use Rattle.record.proofs.Fields.{length-ended, ended_state, ended_by}
use Rattle.rules.specs.Answers.{is_done}
use Rattle.rules.specs.Calls.{Text, abort, code_of}
use Rattle.shape.specs.Reading.{Book}
use Rattle.shape.specs.Shape.{shape}
use Rattle.shape.specs.Sound.{SoundRecord, SoundEnded}
use Rattle.shape.proofs.Sound.{sound}
use Rattle.book.specs.Step.{Outcome, slot_of}
use Rattle.book.proofs.Ends.{body_ended}
use Rattle.book.proofs.Decisions.{ended-kept, step_kept}
use Rattle.abort.specs.Effect.{abort_step}
use Rattle.abort.specs.Inner.{by_state, aborted_at}
use Rattle.abort.proofs.States.{ends}

module _ (b : Book) (sender id code : Text) where
  -- two answers that meet the promise are equal: number, mark, head and every lent byte
  pub one_answer : (x y : Outcome) → x ≡ abort_step b sender id code → y ≡ abort_step b sender id code → x ≡ y
  one_answer x y p q = p ∙ sym q

  -- "All but 0 change nothing lent and no state": by the definition of what is left
  pub refused_keeps : is_done (abort_step b sender id code).answer ≡ false → (abort_step b sender id code).left ≡ b
  unfolding abort_step
  refused_keeps e = rw e

  -- a book of the shape is left of the shape: the record ends in state 4, ended by 2, and the payer's position and the open amounts fall
  -- by the same
  pub shape-kept : length b.head.accounts ≡ 32 → shape b ≡ true → shape (abort_step b sender id code).left ≡ true
  unfolding abort_step
  shape-kept wide e =
      step_kept b (aborted_at b (slot_of b (id_of id)) (code_of code)) (abort sender id code) e (λ done form.
      ended-kept b (sound b wide e) wide sender (id_of id) (by_state (code_of code)) (ends (code_of code)) (num payer_field) (λ r s. s.payer)
      (ended_row 4 2 (code_of code) (zeros 32)) finished done)
    where
      finished : (r : Row) → length r ≡ 160 → SoundRecord b.head.count r →
          (length (ended_row 4 2 (code_of code) (zeros 32) r) ≡ 160) × SoundEnded b.head.count (ended_row 4 2 (code_of code) (zeros 32) r)
      finished r long s =
          let sized = length-zeros 32 in
          let aborted = ended_state 4 2 (code_of code) (zeros 32) r sized long in (
            length-ended 4 2 (code_of code) (zeros 32) r ∙ long,
            record {
              ending = inr (aborted, inl (ended_by 4 2 (code_of code) (zeros 32) r sized long));
              body = body_ended b.head.count 4 2 (code_of code) (zeros 32) r sized long s;
            },
          )
