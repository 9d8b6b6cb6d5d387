-- `tree_sized` meets its contract: the tables have room for the activities.
use Prim.Native.Nat.{ℕ}
use lib.IntN.{pos}
use Rattle.progress.proofs.Fronts.{front_long}
use Rattle.progress.proofs.rolled.tree_sized.Goals as goal

pub roll_own-requires : goal.roll_own-requires
roll_own-requires g c =
    let r = c.requires in
    record { opened = r.opened; schedule_len = (front_long {A = ℕ} g.row.SCHEDULE 0 _ r.room.0, front_long g.row.OWN (pos 0) _ r.room.1, r.parents_len.0, r.parents_len.1) }
