-- `put_text` meets its contract: after k bytes their digits stand at their places, and dashes everywhere else.
use Rattle.std.proofs.Common.{arith, ◌≡◌, ◌∙◌, ap, ℕ}
use Rattle.uuid_text.proofs.Spelled.{begun_text, none-yet, all-there, turn_at}
use Rattle.uuid_text.proofs.put_text.Goals as goal

pub loop-k-init : goal.loop-k-init
loop-k-init c = none-yet _

pub loop-k-preserved : goal.loop-k-preserved
loop-k-preserved c =
    let l = c.loop-k in
    turn_at c.args.id.now l.text l.k _ _ (omega arith) l.invariant c.hex_char.ensures c.hex_char-in-loop-k.ensures

pub returns : goal.returns
returns c =
    let l = c.loop-k in
    let e : l.k ≡ 16 = omega arith in
    l.invariant ∙ ap (λ (k : ℕ). begun_text k c.args.id.now) e ∙ all-there c.args.id.now
