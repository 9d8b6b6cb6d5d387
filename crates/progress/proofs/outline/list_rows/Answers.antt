-- `list_rows` meets its contract: the columns and the lines have room for the activities, few or not.
use native.Mathlib.Omega.{arith}
use Rattle.progress.proofs.outline.list_rows.Goals as goal

pub list_sized-requires : goal.list_sized-requires
list_sized-requires c = record { room = (omega arith, omega arith, omega arith); rolled_len = c.requires.1; most = (omega arith, omega arith, omega arith) }

pub list_sized-requires-2 : goal.list_sized-requires-2
list_sized-requires-2 c = record { room = (omega (arith, c.requires.0), omega (arith, c.requires.0), omega (arith, c.requires.0)); rolled_len = c.requires.1; most = (omega arith, omega arith, omega arith) }
