-- `since_zero`: within the writer's ends the sum is no smaller than 0.
use mathlib.Core.Path.{◌∙◌, subst⁻¹}
use Prim.Native.Nat.{ℕ, ◌≤◌, ◌<◌}
use Rattle.datetime.proofs.Signed.{since, moved-is, count-is}
use Rattle.datetime.proofs.writer.since_zero.Goals as goal

pub returns : goal.returns
returns c =
    let z = c.args.ms in
    let s = since z c.requires in
    let e = moved-is z c.ranges.ms s in
    (e ∙ count-is z s, subst⁻¹ (λ (x : ℕ). 31556995200000 ≤ x) e s.least, subst⁻¹ (λ (x : ℕ). x < 315569520000000) e s.most)
