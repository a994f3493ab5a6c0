-- `taken`: what the library counts.
use Rattle.std.proofs.Common.{rules, refl, cond, ◌≡◌, ◌+◌, Bool, true, false, sym, ◌∙◌, ℕ, arith}
use Rattle.std.proofs.lemmas.List.Recursion.{is_count_by}
use Rattle.octets.specs.Lists.{count}
use Rattle.shape.specs.Reading.{is_taken}
use Rattle.prepare.proofs.taken.Goals as goal

one_more : (t : Bool) (n : ℕ) → cond t 1 0 + n ≡ cond t (1 + n) n
one_more true n = refl
one_more false n = omega arith

pub returns : goal.returns
returns c = search rules ∙ sym (is_count_by (count is_taken) is_taken refl (λ x xs. one_more (is_taken x) (count is_taken xs)) c.args.slots.now)
