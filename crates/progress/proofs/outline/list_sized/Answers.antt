-- `list_sized` meets its contract: the columns and the lines have room for the activities.
use Prim.Native.Nat.{ℕ}
use Rattle.progress.proofs.Fronts.{front_long}
use Rattle.progress.proofs.outline.list_sized.Goals as goal

pub put_outline-requires : goal.put_outline-requires
put_outline-requires g c =
    let room = c.requires.room in
    record { figured = c.requires.rolled_len; firsts = front_long {A = ℕ} g.row.FIRST 0 _ room.0; nexts = front_long {A = ℕ} g.row.NEXT 0 _ room.1; listed = front_long {A = ℕ} g.row.LINES 0 _ room.2 }
