-- `own_dates` meets its contract: the table is an array.
use native.Mathlib.Omega.{arith}
use Rattle.periods.proofs.listed.own_dates.Goals as goal

pub whole_as_slice-dates_by : goal.whole_as_slice-dates_by
whole_as_slice-dates_by g c = omega (arith, c.requires.most)
