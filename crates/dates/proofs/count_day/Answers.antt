-- `dates::count_day` meets its contract.
-- Assumes nothing.
use mathlib.Core.Path.{◌∙◌}
use lib.Dec.{lit<}
use mir.Facts.{to_z-of_z}
use Rattle.gregorian.proofs.Counts.{room}
use Rattle.dates.proofs.Counts.{day_within, epoch_is}
use Rattle.dates.proofs.count_day.Goals as goal

pub counted_from-requires : goal.counted_from-requires
counted_from-requires c =
    rw (to_z-of_z c.ranges.days) (room 4371953 366 7304849 _ (lit< tt) (lit< tt) (rw epoch_is at (day_within _ c.requires)))

pub returns : goal.returns
returns c = c.counted_from.ensures ∙ rw (epoch_is, to_z-of_z c.ranges.days)
