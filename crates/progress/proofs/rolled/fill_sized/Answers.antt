-- `fill_sized` meets its contract: the table has room for the activities.
use lib.IntN.{pos}
use Rattle.progress.proofs.Fronts.{front_long}
use Rattle.progress.proofs.rolled.fill_sized.Goals as goal

pub fill_rows-requires : goal.fill_rows-requires
fill_rows-requires g c = let r = c.requires in record { opened = r.opened; rolled_len = (front_long g.row.ROLLED (pos 0) _ r.room, r.out_len) }
