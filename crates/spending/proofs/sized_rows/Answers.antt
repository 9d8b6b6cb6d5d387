-- `sized_rows` meets its contract: the schedule is lent as far as the book has activities.
use Prim.Native.Nat.{ℕ}
use mathlib.Core.Path.{sym}
use Rattle.bydate.proofs.Arrays.{front_long}
use Rattle.spending.proofs.sized_rows.Goals as goal

pub scheduled_rows-requires : goal.scheduled_rows-requires
scheduled_rows-requires g c = let r = c.requires in record { opened = r.opened; schedule_len = sym (front_long {A = ℕ} g.row.SCHEDULE 0 _ r.room) }
