-- `read_activities` meets its contract: the schedule, then the parents from it.
use Rattle.format.specs.Verdict.{content}
use borrow.Author.Rules.{rules}
use Rattle.budget.proofs.lines.read_activities.Goals as goal

pub returns : goal.returns
returns c =
    record {
      read = c.fill_schedule.ensures;
      above = c.copy_parents.ensures (content c.args.book.now) c.fill_schedule.ensures;
    }
