-- `zoned`: by the first byte of the zone.
use mathlib.Core.Path.{◌≡◌, sym, ap, ◌∙◌}
use native.Mathlib.Omega.{arith}
use mir.Facts.{to_z-of_z}
use mir.Syntax.{w64}
use mir.Val.{to_z, of_z}
use lib.IntN.{ℤ}
use lib.Signed.{mag}
use Prim.Native.Nat.{◌<◌}
use Rattle.std.specs.Prelude.{Ok}
use Rattle.datetime.specs.Reading.{zoned}
use Rattle.datetime.proofs.Steps.{went, halts, lacks}
use Rattle.datetime.proofs.reader.zoned.Goals as goal

held : {z : ℤ} → mag z < 9223372036854775808 → to_z w64 (of_z w64 z) ≡ z
held h = to_z-of_z {w = w64} (record { sfits = h })

pub returns-in_err-ended-in-90 : goal.returns-in_err-ended-in-90
unfolding zoned
returns-in_err-ended-in-90 c =
    rw (sym c.at.ensures.0 ∙ c.in-90.is) (halts _ c.ended.ensures c.from_residual.ensures.1 c.in_err-ended-in-90.was)

pub returns-in_err-offset-in-43 : goal.returns-in_err-offset-in-43
unfolding zoned
returns-in_err-offset-in-43 c =
    rw (sym c.at.ensures.0 ∙ c.in-43.is)
    (halts _ c.offset.ensures.value c.from_residual-in_err-offset-in-43.ensures.1 c.in_err-offset-in-43.was)

pub returns-in_err-offset-in-45 : goal.returns-in_err-offset-in-45
unfolding zoned
returns-in_err-offset-in-45 c =
    rw (sym c.at.ensures.0 ∙ c.in-45.is)
    (halts _ c.offset-in-45.ensures.value c.from_residual-in_err-offset-in-45.ensures.1 c.in_err-offset-in-45.was)

pub returns-in_ok-ended-in-90 : goal.returns-in_ok-ended-in-90
unfolding zoned
returns-in_ok-ended-in-90 c =
    rw (sym c.at.ensures.0 ∙ c.in-90.is)
    (went _ c.ended.ensures c.in_ok-ended-in-90.was (ap (λ (z : ℤ). Ok z) (held c.difference.type_inv ∙ c.difference.ensures)))

pub returns-in_ok-offset-in-43 : goal.returns-in_ok-offset-in-43
unfolding zoned
returns-in_ok-offset-in-43 c =
    rw (sym c.at.ensures.0 ∙ c.in-43.is)
    (went _ c.offset.ensures.value c.in_ok-offset-in-43.was
    (ap (λ (z : ℤ). Ok z) (held c.difference-in-43.type_inv ∙ c.difference-in-43.ensures)))

pub returns-in_ok-offset-in-45 : goal.returns-in_ok-offset-in-45
unfolding zoned
returns-in_ok-offset-in-45 c =
    rw (sym c.at.ensures.0 ∙ c.in-45.is)
    (went _ c.offset-in-45.ensures.value c.in_ok-offset-in-45.was
    (ap (λ (z : ℤ). Ok z) (held c.difference-in-45.type_inv ∙ c.difference-in-45.ensures)))

pub returns-in_default : goal.returns-in_default
unfolding zoned
returns-in_default c =
    let at = c.at.ensures.0 in
    rw (lacks at (λ (e : c.at.result ≡ 90). omega arith), lacks at (λ (e : c.at.result ≡ 43). omega arith), lacks at (λ (e : c.at.result ≡ 45). omega arith))
