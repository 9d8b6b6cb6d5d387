-- `put_row` meets its contract: a part of the numbers is the row.
use Prim.Native.Nat.{◌+◌, ◌-◌}
use native.Mathlib.Omega.{arith}
use mathlib.Core.Path.{refl, sym, ◌∙◌}
use lib.ListN.{length}
use lib.Seq.{take-length}
use Rattle.std.proofs.lemmas.List.Edits.{sets-eq}
use Rattle.std.proofs.lemmas.Slice.{put_mid-paste}
use Rattle.rows.proofs.put_row.Goals as goal

pub returns : goal.returns
returns g c =
    let s = c.args in
    let row = s.row.now in
    put_mid-paste s.at (s.at + length row - s.at) s.out.now c.copy_from_slice.new.self row (length row) c.copy_from_slice.ensures.after (omega arith) refl
    ∙ rw (take-length row) (sym (sets-eq row s.out.now s.at c.requires))
