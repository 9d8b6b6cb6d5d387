-- `spending_of` meets its contract: the points by day.
use mathlib.Core.Path.{refl}
use Rattle.answers.specs.Rows.{spending_rows}
use Rattle.answers.proofs.Replies.{if_puts}
use Rattle.spending.specs.Grained.{rows_by, are_held}
use Rattle.spending.proofs.spending_of.Goals as goal

pub returns : goal.returns
unfolding spending_rows rows_by are_held
returns c = if_puts refl c.rows_of.ensures
