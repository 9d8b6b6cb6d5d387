-- `indices_of` meets its contract: the row of these figures under the book's forecast.
use borrow.Author.Rules.{rules}
use Rattle.answers.specs.Rows.{indices_rows}
use Rattle.forecast.proofs.Rowed.{same_row}
use Rattle.progress.proofs.indices.indices_of.Goals as goal

pub returns : goal.returns
unfolding indices_rows
returns c =
    same_row c.requires.opened.forecast c.activity_earned-figures.ensures c.give_forecast.ensures
