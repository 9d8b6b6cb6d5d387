-- `date_sized` meets its contract: the table is an array.
use native.Mathlib.Omega.{arith}
use Rattle.earned.proofs.dated.date_sized.Goals as goal

pub whole_as_slice-date_by : goal.whole_as_slice-date_by
whole_as_slice-date_by g c = omega (arith, c.requires.most)
