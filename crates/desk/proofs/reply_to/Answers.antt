-- `reply_to`: the call where the fields are as many as the word has, else 1.
use Rattle.std.proofs.Common.{ap, sym, ◌∙◌}
use Rattle.desk.specs.Words.{word_of}
use Rattle.desk.proofs.Lines.{line_unnamed, line_called, line_refused}
use Rattle.desk.proofs.reply_to.Goals as goal

pub returns-in_default : goal.returns-in_default
returns-in_default c =
    rw c.refused.ensures (line_unnamed _ _ c.args.line.now (sym (ap word_of c.piece.ensures) ∙ sym c.named.ensures ∙ c.in_default.is))

pub returns-then-count-fields : goal.returns-then-count-fields
returns-then-count-fields c =
    rw c.refused-then-count-fields.ensures (line_refused _ _ c.args.line.now _ _ _
    (sym c.in-Some.is ∙ c.named.ensures ∙ ap word_of c.piece.ensures) c.fields-fields.ensures c.count.ensures c.if-count-fields.true)

pub returns : goal.returns
returns c =
    c.called.ensures ∙ line_called _ _ c.args.line.now _ _ _
    (sym c.in-Some.is ∙ c.named.ensures ∙ ap word_of c.piece.ensures) c.fields-fields.ensures c.count.ensures c.if-count-fields.false
