-- `make_own` meets its contract: what no date changes, then planned value.
use borrow.Author.Rules.{rules}
use Rattle.format.specs.Verdict.{content}
use Rattle.earned.proofs.Dating.{measured_are}
use Rattle.progress.proofs.own.make_own.Goals as goal

pub date_values-requires : goal.date_values-requires
date_values-requires c =
    let columns = c.fill_columns.ensures in
    record { opened = c.requires.opened; listed_value = (columns.spanned, columns.budgeted); measured = measured_are (content c.args.book.now) c.measure.ensures }
