use mathlib.Core.Path.{◌≡◌}
use mathlib.Core.List.{◌++◌, map}
use Prim.Native.Nat.{◌*◌}
use lib.ListN.{length, take, drop}
use Rattle.base64url.specs.Letters.{value_of}
use Rattle.base64url.specs.Condition.{bytes_of}
use Rattle.base64url.specs.Scan.{all_letters}
use Rattle.base64url.proofs.read_condition.Given as goal

abbrev pub invariant-loop-k : goal.invariant-loop-k
invariant-loop-k l =
    (length l.bytes ≡ 32) × (take (l.k * 3) l.bytes ++ bytes_of (map value_of (drop (l.k * 4) l.s)) ≡ bytes_of (map value_of l.s))
    × (all_letters (drop (l.k * 4) l.s) ≡ all_letters l.s)
