-- `fill_counts` meets its contract: what counts the dates that the table of days has counts those that the calendar works.
use borrow.Author.Rules.{rules}
use Rattle.calendar.proofs.Spans.{counts_shown}
use Rattle.calendar.proofs.counts.fill_counts.Goals as goal

pub returns : goal.returns
returns c = counts_shown _ _ _ _ _ c.fill_days.ensures c.count_days.ensures
