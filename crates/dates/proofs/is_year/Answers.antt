-- `dates::is_year` meets its contract.
-- Assumes nothing.
use mathlib.Core.Path.{◌∙◌}
use lib.IntN.{pos, negsuc}
use mir.Facts.{to_z-of_z}
use Rattle.gregorian.specs.Count.{between}
use Rattle.dates.specs.Date.{is_year}
use Rattle.gregorian.proofs.Between.{not_after}
use Rattle.dates.proofs.is_year.Goals as goal

pub returns : goal.returns
unfolding is_year between
returns c =
    c.contains.ensures.value
    ∙ rw (c.new.ensures.start, c.new.ensures.end, c.new.ensures.exhausted, to_z-of_z c.ranges.year, not_after (negsuc 9998) c.args.year, not_after c.args.year (pos 9999))
