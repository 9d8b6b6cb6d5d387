-- `put_total` meets its contract: the call fills the row, since an accepted book at its own date is not refused. Assumes nothing.
use mathlib.Core.Path.{refl}
use borrow.Author.Rules.{rules}
use Rattle.report.specs.Status.{total_line}
use Rattle.report.proofs.Calls.{project_row}
use Rattle.report.proofs.put_total.Goals as goal

pub returns : goal.returns
unfolding total_line
returns c =
    let call = c.project_earned in
    let line = c.put_earned_line in
    record {
      upper_bound = search rules;
      out_after = rw (← project_row _ (search rules) _ (search rules) refl call.ensures) line.ensures.out_after;
    }
