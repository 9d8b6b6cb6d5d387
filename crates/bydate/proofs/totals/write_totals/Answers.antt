-- `write_totals` meets its contract: the totals, then their points from a date on.
use mathlib.Core.Path.{ap, ◌∙◌}
use native.Mathlib.Omega.{arith}
use Rattle.lists.specs.Lists.{keep}
use Rattle.model.specs.Amounts.{is_between}
use Rattle.bydate.proofs.Writing.{puts_same}
use Rattle.bydate.proofs.Running.{points_from}
use Rattle.bydate.proofs.totals.write_totals.Goals as goal

pub run_up-requires : goal.run_up-requires
run_up-requires c = let r = c.requires in record { start = omega arith; reach = r.reach; latest = r.latest }

pub write_points-requires : goal.write_points-requires
write_points-requires c = let r = c.requires in record { start = r.start; reach = omega (arith, r.reach, c.run_up.auto.table); latest = r.latest }

pub returns : goal.returns
returns c =
    let s = c.args in
    puts_same
    (points_from s.base s.base s.from s.to c.run_up.new.table c.requires.start ∙ ap (keep (is_between s.from s.to)) c.run_up.ensures)
    c.write_points.ensures
