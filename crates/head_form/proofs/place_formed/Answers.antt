use Rattle.std.proofs.Common.{◌≡◌, ◌-◌, true, ◌∙◌, sym, arith, get_or}
use Rattle.octets.specs.Parts.{all_zero, part}
use Rattle.head_form.proofs.place_formed.Goals as goal
use Rattle.head_form.proofs.place_formed.Goals.{then-n-gt32, else-n-gt32}

pub returns-then-name_ends : goal.returns-then-name_ends
unfolding all_zero
returns-then-name_ends c =
    let p = c.args.place.now in
    elim c.if-n-gt32.branch [
      | then-n-gt32 w ↦ let none : 32 - get_or p 52 0 ≡ 0 = omega (arith, c.from-n.ensures) in rw (c.if-not-used.false, none) c.all_zero-then-name_ends.ensures
      | else-n-gt32 w ↦ let zeros : all_zero (part p (get_or p 52 0) (32 - get_or p 52 0)) ≡ true = rw c.from-n.ensures at (sym w.all_zero-name_ends.ensures) ∙ sym w.name_ends-is ∙ c.if-name_ends.true in rw (c.if-not-used.false, zeros) c.all_zero-then-name_ends.ensures
    ]
