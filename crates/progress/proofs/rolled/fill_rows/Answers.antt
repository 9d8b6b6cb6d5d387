-- `fill_rows` meets its contract: the table, then its rows.
use borrow.Author.Rules.{rules}
use Rattle.format.specs.Verdict.{content}
use Rattle.book.proofs.Plan.{activities_count}
use Rattle.progress.proofs.rolled.fill_rows.Goals as goal

pub returns : goal.returns
returns c =
    c.put_values.ensures (content c.args.book.now) c.args.date (activities_count c.requires.opened.plan) c.roll_values.ensures
