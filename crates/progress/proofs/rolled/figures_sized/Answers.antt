-- `figures_sized` meets its contract: the table has room for the activities.
use lib.IntN.{pos}
use Rattle.progress.proofs.Fronts.{front_long}
use Rattle.progress.proofs.rolled.figures_sized.Goals as goal

pub figures_at-requires : goal.figures_at-requires
figures_at-requires g c =
    let r = c.requires in
    record { opened = r.opened; activity_lt_count = r.activity_lt_count; rolled_len = front_long g.row.ROLLED (pos 0) _ r.room }
