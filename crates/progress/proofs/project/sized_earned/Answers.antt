-- `sized_earned` meets its contract: the tables have room for the activities.
use Prim.Native.Nat.{ℕ}
use lib.IntN.{pos}
use Rattle.progress.proofs.Fronts.{front_long}
use Rattle.progress.proofs.project.sized_earned.Goals as goal

pub add_leaves-requires : goal.add_leaves-requires
add_leaves-requires g c = let r = c.requires in record { opened = r.opened; schedule_len = (front_long {A = ℕ} g.row.SCHEDULE 0 _ r.room.0, front_long g.row.OWN (pos 0) _ r.room.1) }
