-- `tell`: the line's outcome, and its answer as a text.
use Rattle.switch.proofs.Outcomes.{told}
use Rattle.switch.proofs.Switch.tell.Goals as goal

pub returns-clause-told : goal.returns-clause-told
returns-clause-told c =
    let put = c.put_line.ensures in
    told _ _ _ _ _ _ _ _ _ _ _ _ c.reply_to-r.ensures c.number-number.ensures c.code-code.ensures put.0 put.2
