-- `write_in` meets its contract: the array is lent as far as there are months.
use native.Mathlib.Omega.{arith}
use lib.IntN.{pos}
use Rattle.bydate.proofs.Arrays.{front_long}
use Rattle.twelve.proofs.Windows.{listed_long_lem}
use Rattle.twelve.proofs.writing.write_in.Goals as goal

pub slice_bounds-write_sums-end : goal.slice_bounds-write_sums-end
slice_bounds-write_sums-end g c = front_long g.row.N (pos 0) _ c.requires.count_bound.1

pub write_sums-requires : goal.write_sums-requires
write_sums-requires g c =
    let w = c.requires in
    let long = front_long g.row.N (pos 0) _ w.count_bound.1 in
    record { days_value = w.days_value; has_reach = (w.has_reach.0, listed_long_lem w.has_reach.1 long); sums_nonzero = omega (arith, w.count_bound.0, long) }

pub whole_as_front-write_sums : goal.whole_as_front-write_sums
whole_as_front-write_sums g c = (c.requires.count_bound.1, omega (arith, c.requires.count_bound.2))
