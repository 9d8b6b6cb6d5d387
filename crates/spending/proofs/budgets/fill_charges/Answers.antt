-- `fill_charges` meets its contract: the two parts are the assignments and the expenses.
use mathlib.Core.Path.{sym}
use Prim.Native.Nat.{◌*◌}
use native.Mathlib.Omega.{arith}
use lib.ListN.{drop, length-drop}
use lib.Seq.{length-take-le}
use Rattle.book.proofs.Plan.{assignments_count}
use Rattle.charges.proofs.Assigning.{links_length, units_length}
use Rattle.spending.proofs.Parted.{second_long, tables_are}
use Rattle.spending.proofs.budgets.fill_charges.Goals as goal

pub slice_bounds-fill_assigned-end-2 : goal.slice_bounds-fill_assigned-end-2
slice_bounds-fill_assigned-end-2 c = sym (length-take-le (c.args.opened.plan.assignments.count * 2) c.args.links.now (omega (arith, c.requires.links_len.0)))

pub slice_bounds-fill_assigned-end-4 : goal.slice_bounds-fill_assigned-end-4
slice_bounds-fill_assigned-end-4 c = sym (length-take-le (c.args.opened.plan.assignments.count * 3) c.args.units.now (omega (arith, c.requires.links_len.1)))

pub fill_assigned-requires : goal.fill_assigned-requires
fill_assigned-requires c =
    let m = c.args.opened.plan.assignments.count in
    record {
      plan_of = c.requires.plan_of;
      links_len = (length-take-le (m * 2) c.args.links.now (omega (arith, c.requires.links_len.0)), length-take-le (m * 3) c.args.units.now (omega (arith, c.requires.links_len.1)));
    }

pub fill_expensed-requires : goal.fill_expensed-requires
fill_expensed-requires c =
    let p = c.requires.plan_of in
    let m = c.args.opened.plan.assignments.count in
    let w = c.fill_assigned.ensures in record {
      plan_of = p;
      accruals_len = (
        second_long (m * 2) c.fill_assigned.new.links (drop (m * 2) c.args.links.now) (omega (arith, links_length w, assignments_count p)) (omega (arith, length-drop (m * 2) c.args.links.now, c.requires.links_len.0)),
        second_long (m * 3) c.fill_assigned.new.units (drop (m * 3) c.args.units.now) (omega (arith, units_length w, assignments_count p)) (omega (arith, length-drop (m * 3) c.args.units.now, c.requires.links_len.1)),
      );
    }

pub returns : goal.returns
returns c =
    let m = c.args.opened.plan.assignments.count in
    tables_are (sym (assignments_count c.requires.plan_of)) (drop (m * 2) c.args.links.now) (drop (m * 3) c.args.units.now) c.fill_assigned.ensures c.fill_expensed.ensures
