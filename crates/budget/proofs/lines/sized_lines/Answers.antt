-- `sized_lines` meets its contract: the arrays have room for the activities.
use Prim.Native.Nat.{ℕ}
use lib.IntN.{pos}
use lib.ListN.{length-replicate}
use lib.Seq.{length-take-le}
use Rattle.budget.proofs.lines.sized_lines.Goals as goal

pub lines_in-requires : goal.lines_in-requires
lines_in-requires g c =
    let room = c.requires.room in record {
      opened = c.requires.opened;
      schedule_len = (
        length-take-le _ _ (rw (length-replicate {A = ℕ} g.row.SCHEDULE 0) room.0),
        length-take-le _ _ (rw (length-replicate {A = ℕ} g.row.PARENTS 0) room.1),
        length-take-le _ _ (rw (length-replicate g.row.COSTS (pos 0)) room.2),
      );
    }
