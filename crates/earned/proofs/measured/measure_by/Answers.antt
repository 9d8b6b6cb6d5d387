-- `measure_by` meets its contract: the units, then the rows.
use native.Mathlib.Omega.{arith}
use mathlib.Core.Path.{◌≡◌, ◌∙◌}
use lib.ListN.{length}
use borrow.Author.Rules.{rules}
use Rattle.format.specs.Verdict.{content}
use Rattle.format.proofs.Theorems.{content_in_range}
use Rattle.book.proofs.Plan.{activities_count, activities_most}
use Rattle.activities.proofs.Scheduling.{schedule_long_lem, schedule_minutes}
use Rattle.baseline.proofs.Listing.{budgets_long_lem}
use Rattle.tree.proofs.Figured.{own_costs_long}
use Rattle.earned.proofs.measured.measure_by.Goals as goal
use Rattle.earned.proofs.measured.measure_by.Goals.{Start}

-- a budget of each activity
counted : (c : Start) → length c.args.budgets.now ≡ c.args.opened.plan.activities.count
counted c = budgets_long_lem (content c.args.book.now) c.requires.schedule_value.2 ∙ activities_count c.requires.opened.plan

pub measure_rows-requires : goal.measure_rows-requires
measure_rows-requires c =
    let p = c.requires.opened.plan in
    let n = counted (goal.at.measure_rows-requires c).Start in record {
      schedule_len = (
        omega (arith, n, schedule_long_lem p c.requires.schedule_value.0),
        omega (arith, n, c.units-1.given, c.requires.units_len.0),
        omega (arith, n, own_costs_long (content c.args.book.now) c.requires.schedule_value.1, activities_count p),
        omega (arith, n, c.requires.units_len.2),
        omega (arith, n, activities_most p),
      );
      by_index = λ i h. schedule_minutes p c.requires.schedule_value.0 i (omega (arith, n));
    }

pub returns : goal.returns
returns c =
    c.measure_rows.ensures (content c.args.book.now) (content_in_range c.args.book.now c.requires.opened.plan.accepted) c.requires.opened.technique c.requires.schedule_value.0
    c.fill_units.ensures c.requires.schedule_value.1 c.requires.schedule_value.2
