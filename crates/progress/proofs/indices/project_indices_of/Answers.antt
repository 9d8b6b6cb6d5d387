-- `project_indices_of` meets its contract: the row of these figures under the book's forecast.
use borrow.Author.Rules.{rules}
use Rattle.answers.specs.Rows.{project_indices_rows}
use Rattle.forecast.proofs.Rowed.{same_row}
use Rattle.progress.proofs.indices.project_indices_of.Goals as goal

pub returns : goal.returns
unfolding project_indices_rows
returns c =
    same_row c.requires.forecast c.project_earned-figures.ensures c.give_forecast.ensures
