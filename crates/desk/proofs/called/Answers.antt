-- `called`: one call for each word.
use Rattle.std.proofs.Common.{◌≡◌, ◌∙◌, rules}
use Rattle.book.specs.Step.{book_of}
use Rattle.open_book.specs.Effect.{open_step}
use Rattle.join.specs.Effect.{join_step}
use Rattle.prepare.specs.Effect.{prepare_step}
use Rattle.fulfil.specs.Effect.{fulfil_step}
use Rattle.abort.specs.Effect.{abort_step}
use Rattle.time.specs.Effect.{time_step}
use Rattle.desk.specs.Desk.{called, field_of, prepare_text}
use Rattle.desk.proofs.Lines.{plain_line, timed_line}
use Rattle.desk.proofs.called.Goals as goal
use Rattle.desk.proofs.called.Goals.{in-Open, in-Join, in-Prepare, in-Fulfil, in-Abort}

pub returns-in-Time : goal.returns-in-Time
unfolding called
returns-in-Time c =
    let line = c.args.line.now in
    let b = book_of c.args.h c.args.opened.now c.args.ended.now in
    let f1 : c.field-in-Time.result.now ≡ field_of line 1 = search rules in
    timed_line _ c.time-r.result c.time-r.new.opened c.time-r.new.ended c.time-r.new.list (time_step b c.args.list.now (field_of line 1))
    (rw c.from.ensures) (c.time-r.ensures ∙ rw f1) ∙ rw c.in-Time.is

pub returns : goal.returns
unfolding called
returns c =
    let line = c.args.line.now in
    let b = book_of c.args.h c.args.opened.now c.args.ended.now in
    let list = c.args.list.now in
    let q = c.from-2.result in
    let r = c.match-w.answered in
    let opened = c.match-w.opened in
    let ended = c.match-w.ended in
    elim c.match-w.branch [
      | in-Open w ↦
          let f1 : w.field.result.now ≡ field_of line 1 = search rules in
          let f2 : w.field-in-Open.result.now ≡ field_of line 2 = search rules in
          plain_line q r opened ended list (open_step b (field_of line 1) (field_of line 2)) c.from-2.ensures
          (rw (w.answered-is, w.opened-is, w.ended-is) (w.open_book-answered.ensures ∙ rw (f1, f2))) ∙ rw w.in-Open.is
      | in-Join w ↦
          let f1 : w.field-in-Join.result.now ≡ field_of line 1 = search rules in
          let f2 : w.field-in-Join-2.result.now ≡ field_of line 2 = search rules in
          plain_line q r opened ended list (join_step b (field_of line 1) (field_of line 2)) c.from-2.ensures
          (rw (w.answered-is, w.opened-is, w.ended-is) (w.join-answered.ensures ∙ rw (f1, f2))) ∙ rw w.in-Join.is
      | in-Prepare w ↦
          plain_line q r opened ended list (prepare_step b (prepare_text (field_of line))) c.from-2.ensures
          (rw (w.answered-is, w.opened-is, w.ended-is) w.prepare_line-answered.ensures) ∙ rw w.in-Prepare.is
      | in-Fulfil w ↦
          let f1 : w.field-in-Fulfil.result.now ≡ field_of line 1 = search rules in
          let f2 : w.field-in-Fulfil-2.result.now ≡ field_of line 2 = search rules in
          let f3 : w.field-in-Fulfil-3.result.now ≡ field_of line 3 = search rules in
          plain_line q r opened ended list (fulfil_step b (field_of line 1) (field_of line 2) (field_of line 3)) c.from-2.ensures
          (rw (w.answered-is, w.opened-is, w.ended-is) (w.fulfil-answered.ensures ∙ rw (f1, f2, f3))) ∙ rw w.in-Fulfil.is
      | in-Abort w ↦
          let f1 : w.field-in-Abort.result.now ≡ field_of line 1 = search rules in
          let f2 : w.field-in-Abort-2.result.now ≡ field_of line 2 = search rules in
          let f3 : w.field-in-Abort-3.result.now ≡ field_of line 3 = search rules in
          plain_line q r opened ended list (abort_step b (field_of line 1) (field_of line 2) (field_of line 3)) c.from-2.ensures
          (rw (w.answered-is, w.opened-is, w.ended-is) (w.abort-answered.ensures ∙ rw (f1, f2, f3))) ∙ rw w.in-Abort.is
    ]
