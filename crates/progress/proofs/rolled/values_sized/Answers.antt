-- `values_sized` meets its contract: the parents have room.
use Prim.Native.Nat.{ℕ}
use Rattle.progress.proofs.Fronts.{front_long}
use Rattle.progress.proofs.rolled.values_sized.Goals as goal

pub roll_tree-requires : goal.roll_tree-requires
roll_tree-requires g c = let r = c.requires in record { opened = r.opened; parents_len = (front_long {A = ℕ} g.row.PARENTS 0 _ r.room, r.out_len) }
