use mathlib.Core.Path.{◌≡◌}
use mathlib.Core.List.{◌++◌}
use Prim.Native.Nat.{◌*◌}
use lib.ListN.{length, take, drop}
use Rattle.base64url.specs.Condition.{condition_text}
use Rattle.base64url.proofs.put_text.Given as goal

abbrev pub invariant-loop-k : goal.invariant-loop-k
invariant-loop-k l =
    (length l.text ≡ 43) × (take (l.k * 4) l.text ++ condition_text (drop (l.k * 3) l.bytes) ≡ condition_text l.bytes)
