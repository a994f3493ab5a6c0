-- `encode`: the first k accounts are stored behind the front.
use Rattle.std.proofs.Common.{◌≡◌, ◌*◌, length, take}
use Rattle.std.proofs.lemmas.List.Edits.{sets}
use Rattle.head_form.specs.Form.{accounts_bytes}
use Rattle.head_form.proofs.encode.Given as goal

abbrev pub invariant-loop-k : goal.invariant-loop-k
invariant-loop-k l = record {
  stored : l.b ≡ sets l.initial.b 32 (accounts_bytes (take l.k l.a-items));
  long : length (accounts_bytes (take l.k l.a-items)) ≡ l.k * 64;
}
