-- `fill_units` meets its contract: by the technique.
use native.Mathlib.Omega.{arith}
use mathlib.Core.Path.{sym, ◌∙◌, subst}
use borrow.Author.Rules.{rules}
use Rattle.format.specs.InRange.{Every, AssignmentInRange}
use Rattle.format.specs.Verdict.{content}
use Rattle.book.proofs.Plan.{activities_count, assignments_in_range}
use Rattle.earned.proofs.Adding.{units_summed, units_none}
use Rattle.earned.proofs.units.fill_units.Goals as goal

pub add_assignments-requires : goal.add_assignments-requires
add_assignments-requires c =
    let plan = c.args.plan in record {
      every = subst (Every (AssignmentInRange plan.activities.count plan.resources.count)) c.requires.plan_of.assignments.listed (assignments_in_range c.requires.plan_of);
      out_len = c.requires.out_len;
    }

pub returns-then-counts_units : goal.returns-then-counts_units
returns-then-counts_units c =
    let p = c.requires.plan_of in
    units_summed (content c.args.book.now) c.args.technique (sym c.counts_units.ensures ∙ c.if-counts_units.true) p.assignments.listed (activities_count p)
    c.add_assignments.ensures

pub returns-else-counts_units : goal.returns-else-counts_units
returns-else-counts_units c =
    units_none (content c.args.book.now) c.args.technique (sym c.counts_units.ensures ∙ c.if-counts_units.false) (omega (arith, c.requires.out_len.0, activities_count c.requires.plan_of)) c.requires.out_len.1
