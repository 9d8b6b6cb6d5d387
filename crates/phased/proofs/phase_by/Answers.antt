-- `phase_by` meets its contract: one table after the other, then the marks.
use Rattle.format.specs.Verdict.{content}
use Rattle.activities.proofs.Scheduling.{schedule_most}
use Rattle.phased.proofs.phase_by.Goals as goal

pub parent_marks-requires : goal.parent_marks-requires
parent_marks-requires c =
    schedule_most c.requires.opened.plan c.fill_columns.ensures.scheduled

pub returns : goal.returns
returns c =
    let columns = c.fill_columns.ensures in
    record {
      marked = c.parent_marks.ensures (content c.args.book.now) columns.scheduled;
      spanned = columns.spanned;
      budgeted = columns.budgeted;
    }
