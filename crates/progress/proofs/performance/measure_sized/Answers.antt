-- `measure_sized` meets its contract: the table of units has room for the activities.
use lib.IntN.{pos}
use Prim.Native.Nat.{◌*◌}
use Rattle.progress.proofs.Fronts.{front_long}
use Rattle.earned.proofs.Adding.{nothing_taken}
use Rattle.progress.proofs.performance.measure_sized.Goals as goal

pub measure_by-requires : goal.measure_by-requires
measure_by-requires g c =
    let r = c.requires in
    record { opened = r.opened; activity_lt_count = r.activity_lt_count; units_len = (front_long g.row.UNITS (pos 0) _ r.room, nothing_taken (c.args.opened.plan.activities.count * 2) g.row.UNITS) }
