-- `text_of`: the date of the day and the rest of the milliseconds, spelled.
use lib.IntN.{ℤ, ◌+ℤ◌, pos, nat_abs}
use mir.Facts.{to_z-of_z}
use mathlib.Core.Path.{ap, ◌∙◌}
use Rattle.datetime.specs.Instant.{epoch, civil_on, utc_text, text_at, date_time_text}
use Prim.Native.Nat.{◌%◌}
use Rattle.datetime.proofs.writer.text_of.Goals as goal

pub returns : goal.returns
unfolding date_time_text
returns c = let date = c.date_of.ensures in
    let n = c.since_zero-n in
    c.spell.ensures
    ∙ (λ i. utc_text (civil_on (date.0 i) (date.1 i) (date.2 i) (n.result % 86400000)))
    ∙ ap text_at n.ensures.0
    ∙ ap (λ (z : ℤ). text_at (nat_abs (z +ℤ pos epoch))) (to_z-of_z c.ranges.ms)
