-- `holidays::awareness_in` meets its contract.
-- Assumes nothing.
use mathlib.Core.Path.{refl, ap, ◌∙◌}
use lib.IntN.{ℤ, pos}
use lib.Signed.{le_z}
use mir.Facts.{to_z-of_z}
use Rattle.gregorian.proofs.Counts.{tested}
use Rattle.dates.specs.Date.{from_ymd}
use Rattle.holidays.specs.Year.{awareness_in}
use Rattle.holidays.proofs.awareness_in.Goals as goal

pub returns-then-year-ge2024 : goal.returns-then-year-ge2024
unfolding awareness_in
returns-then-year-ge2024 c =
    rw (tested (le_z (pos 2024)) c.ranges.year refl c.if-year-ge2024.true) (c.from_ymd.ensures ∙ ap (λ (v : ℤ). from_ymd v 11 20) (to_z-of_z c.ranges.year))

pub returns : goal.returns
unfolding awareness_in
returns c = rw (tested (le_z (pos 2024)) c.ranges.year refl c.if-year-ge2024.false)
