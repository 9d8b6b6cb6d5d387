-- `sized_lines` meets its contract: the arrays have room for the activities.
use Prim.Native.Nat.{ℕ}
use lib.IntN.{pos}
use lib.ListN.{length-replicate}
use lib.Seq.{length-take-le}
use Rattle.variances.proofs.sized_lines.Goals as goal

pub vary_in-requires : goal.vary_in-requires
vary_in-requires g c =
    let r = c.requires in record {
      plan_of = r.plan_of;
      schedule_len = (length-take-le _ _ (rw (length-replicate {A = ℕ} g.row.SCHEDULE 0) r.room.0), length-take-le _ _ (rw (length-replicate g.row.COSTS (pos 0)) r.room.1));
      out_value = r.out_value;
    }
