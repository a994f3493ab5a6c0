-- `write_datetime`: outside the years, without room, or the text and what stood after it.
use mathlib.Core.List.{List, ◌++◌}
use Prim.Native.Nat.{ℕ}
use lib.ListN.{length, drop}
use mathlib.Core.Bool.{Bool}
use lib.IntN.{ℤ}
use mir.Val.{SFits, to_z, of_z}
use mir.Syntax.{w64}
use mathlib.Core.Path.{◌≡◌, refl, sym, ap, ◌∙◌}
use mir.Facts.{to_z-of_z}
use Rattle.datetime.specs.Instant.{in_years, date_time_text}
use Rattle.datetime.proofs.Signed.{outside, no_room, written}
use Rattle.datetime.proofs.write_datetime.Goals as goal

-- the test of the argument, as the machine holds it
judged : {z : ℤ} {a b : Bool} → SFits w64 z → a ≡ in_years (to_z w64 (of_z w64 z)) → a ≡ b → in_years z ≡ b
judged f e t = sym (ap in_years (to_z-of_z f)) ∙ sym e ∙ t

pub returns-then-not-in_years : goal.returns-then-not-in_years
returns-then-not-in_years c =
    (outside c.args.ms (length c.args.out.now) (judged c.ranges.ms c.in_years.ensures c.if-not-in_years.true), refl)

pub returns-in_default : goal.returns-in_default
returns-in_default c = (
  no_room c.args.ms (length c.args.out.now) (judged c.ranges.ms c.in_years.ensures c.if-not-in_years.false)
      c.in_default.ensures.cases,
  refl,
)

pub returns : goal.returns
returns c =
    let old = c.args.out.now in (
      written c.args.ms (length old) (judged c.ranges.ms c.in_years.ensures c.if-not-in_years.false)
          (c.in-Some.ensures.variant.0 refl),
      ap (λ (x : List ℕ). x ++ drop 24 old) (c.text_of.ensures ∙ ap date_time_text (to_z-of_z c.ranges.ms)),
    )
