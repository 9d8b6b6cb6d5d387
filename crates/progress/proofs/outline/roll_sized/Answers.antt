-- `roll_sized` meets its contract: the tables have room for the activities.
use Prim.Native.Nat.{ℕ}
use lib.IntN.{pos}
use Rattle.progress.proofs.Fronts.{front_long}
use Rattle.progress.proofs.outline.roll_sized.Goals as goal

pub roll_rows-requires : goal.roll_rows-requires
roll_rows-requires g c =
    let r = c.requires in
    record { opened = r.opened; parents_len = (front_long {A = ℕ} g.row.PARENTS 0 _ r.room.0, front_long g.row.ROLLED (pos 0) _ r.room.1) }
