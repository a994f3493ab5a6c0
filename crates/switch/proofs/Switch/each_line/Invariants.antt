-- `each_line`: every turn takes the bytes of one line more.
use Rattle.std.proofs.Common.{◌≡◌, ◌+◌, ◌-◌, ◌≤◌, length, drop}
use Rattle.lines.specs.Lines.{cut_at, index_of}
use Rattle.switch.specs.Input.{standing, through_lines}
use Rattle.switch.proofs.Input.{Reached}
use Rattle.switch.proofs.Switch.each_line.Given as goal

abbrev pub invariant-loop-end : goal.invariant-loop-end
invariant-loop-end l = record {
  within : l.at ≤ length l.text;
  found : l.end ≡ l.at + index_of 10 (drop l.at l.text);
  last : l.end ≤ length l.text;
  reached : Reached (through_lines l.initial.self.skips (standing l.initial.self) (cut_at 10 l.text)) l.text l.self l.at;
}

abbrev pub decreases-loop-end : goal.decreases-loop-end
decreases-loop-end l = length l.text - l.at
