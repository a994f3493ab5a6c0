-- `all_ended`: what the library's `fold` gives is the test of all.
use Rattle.std.proofs.Common.{◌≡◌, ◌∙◌, ◌&&◌, true, arith}
use Rattle.std.proofs.lemmas.Grind.{common_steps}
use Rattle.std.specs.List.{fold}
use Rattle.shape.specs.Shape.{ended_ok}
use Rattle.shape.proofs.Slots.{fold_all}
use Rattle.shape.proofs.records.all_ended.Goals as goal

pub returns : goal.returns
returns c =
    let ok = ended_ok c.args.accounts in
    let e : c.fold.result ≡ fold (λ right r. right && ok r) true c.args.records.now = grind (arith, common_steps) in
    e ∙ fold_all ok c.args.records.now
