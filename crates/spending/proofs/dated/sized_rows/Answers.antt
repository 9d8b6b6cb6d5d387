-- `sized_rows` meets its contract: the tables have room.
use Prim.Native.Nat.{ℕ}
use lib.ListN.{length-replicate}
use Rattle.bydate.proofs.Arrays.{empty_table}
use Rattle.spending.proofs.dated.sized_rows.Goals as goal

pub rows_in-requires : goal.rows_in-requires
rows_in-requires g c =
    let r = c.requires in record {
      asked = r.asked;
      charged = r.charged;
      known_in_bounds = rw (length-replicate {A = ℕ} g.row.DAYS 0) r.room.0;
      empty = empty_table g.row.TABLE r.room.1;
    }
