-- `own_sized` meets its contract: the tables have room for the activities.
use Prim.Native.Nat.{ℕ}
use lib.IntN.{pos}
use Rattle.progress.proofs.Fronts.{front_long}
use Rattle.progress.proofs.own.own_sized.Goals as goal

pub make_own-requires : goal.make_own-requires
make_own-requires g c =
    let r = c.requires in record {
      opened = r.opened;
      has_room = record { schedule_long = r.schedule_len.0; costs_long = front_long g.row.COSTS (pos 0) _ r.room.0; listed_long = front_long {A = ℕ} g.row.LISTED 0 _ r.room.1; budgets_long = front_long g.row.BUDGETS (pos 0) _ r.room.2 };
      own_len = r.schedule_len.1;
    }
