-- `each_line`: every turn takes the bytes of one line more.
use Rattle.std.proofs.Common.{◌≡◌, ℕ, ◌-◌, List, [], cond, ap, arith}
use denote.Ref.{Bor}
use Rattle.octets.specs.Parts.{part}
use Rattle.switch.proofs.Input.{no_newline, next_line}
use Rattle.switch.proofs.Switch.each_line.Goals as goal
use Rattle.switch.proofs.Switch.each_line.Goals.{then-self, else-self}

pub loop-end-preserved : goal.loop-end-preserved
loop-end-preserved c =
    let l = c.loop-end in
    let text = c.args.text.now in
    let line : c.if-self.line.now ≡ cond l.self.skips [] (part text l.at (l.end - l.at)) = elim c.if-self.branch [
      | then-self w ↦ rw w.if-self.true (ap (λ (b : Bor (List ℕ)). b.now) w.line-is)
      | else-self w ↦ rw w.if-self.false (ap (λ (b : Bor (List ℕ)). b.now) w.line-is)
    ] in
    record {
      within = omega arith;
      found = c.find-end-in-loop-end.ensures.place;
      last = c.find-end-in-loop-end.ensures.within;
      reached = next_line _ text l.self l.at l.invariant.reached l.end l.invariant.within l.invariant.found
          (omega (arith, l.invariant.found)) c.loop-end-test.true c.serve.new.self (rw line at c.serve.ensures);
    }

pub returns : goal.returns
returns c =
    let l = c.loop-end in
    record {
      within = l.invariant.within;
      answered = no_newline _ c.args.text.now l.self l.at l.invariant.reached l.end l.invariant.within l.invariant.found (omega arith);
    }
