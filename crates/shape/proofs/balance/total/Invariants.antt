use Rattle.std.proofs.Common.{◌≡◌, ◌*◌, ◌≤◌, ◌^◌, take}
use lib.Signed.{mag}
use Rattle.octets.specs.Lists.{sum}
use Rattle.account.specs.Head.{accounts_of}
use Rattle.shape.specs.Shape.{total}
use Rattle.shape.specs.Scan.{below_of, most_below}
use Rattle.shape.proofs.balance.total.Given as goal

abbrev pub invariant-loop-a : goal.invariant-loop-a
invariant-loop-a l = record {
  sums : l.sum ≡ total (take l.a-index (accounts_of l.fn.h));
  small : mag l.sum ≤ l.a-index * 2 ^ 79;
  downs : l.below ≡ sum below_of (take l.a-index (accounts_of l.fn.h));
  low : l.below ≤ most_below;
}
