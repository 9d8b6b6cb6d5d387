-- `count_sized` meets its contract: the tables have room.
use Prim.Native.Nat.{ℕ}
use lib.ListN.{length-replicate}
use Rattle.variances.proofs.stretch.count_sized.Goals as goal

pub count_calendars-requires : goal.count_calendars-requires
count_calendars-requires g c =
    let r = c.requires in record {
      every = r.every;
      tables = r.tables;
      by_index = r.by_index;
      by_index_2 = r.by_index_2;
      bounded = (r.bounded, record { days_room = rw (length-replicate {A = ℕ} g.row.DAYS 0) r.room.0; counts_room = rw (length-replicate {A = ℕ} g.row.COUNTS 0) r.room.1 });
    }
