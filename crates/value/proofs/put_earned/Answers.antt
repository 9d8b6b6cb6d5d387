-- `put_earned` meets its contract: the figures, and what is spent behind them.
use borrow.Author.Rules.{rules}
use Rattle.value.proofs.Reading.{row_set}
use Rattle.value.proofs.put_earned.Goals as goal

pub returns : goal.returns
returns c =
    row_set c.args.out.now c.args.at c.args.e c.put_figures.ensures c.spent_bits.ensures c.put_optional.ensures
