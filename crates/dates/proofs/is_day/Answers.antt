-- `dates::is_day` meets its contract.
-- Assumes nothing.
use mathlib.Core.Path.{◌∙◌}
use mir.Facts.{to_z-of_z}
use lib.IntN.{pos, negsuc}
use Rattle.gregorian.specs.Count.{between}
use Rattle.gregorian.proofs.Between.{not_after}
use Rattle.dates.proofs.Counts.{is_day_lem}
use Rattle.dates.proofs.is_day.Goals as goal

pub returns : goal.returns
unfolding between
returns c =
    let z = c.args.days in
    c.contains.ensures.value
    ∙ rw (c.new.ensures.start, c.new.ensures.end, c.new.ensures.exhausted, to_z-of_z c.ranges.days, not_after (negsuc 4371586) z, not_after z (pos 2932896), is_day_lem z)
