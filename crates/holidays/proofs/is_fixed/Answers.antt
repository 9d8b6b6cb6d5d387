-- `holidays::is_fixed` meets its contract: the search's test is the definition's.
-- Assumes nothing.
use Rattle.std.proofs.Common.{rules, tests}
use Rattle.std.proofs.lemmas.Iterator.{YieldsList-from_slice}
use Rattle.std.proofs.lemmas.Iterator.Search.{any_from_yields_List}
use Rattle.lists.specs.Lists.{any}
use Rattle.holidays.specs.Holiday.{fixed_days, is_on, is_fixed}
use Rattle.holidays.proofs.is_fixed.Goals as goal

pub returns : goal.returns
unfolding is_fixed any
returns c =
    any_from_yields_List (is_on c.args.month c.args.day) _ _ c.any.result c.any.ensures.ran (YieldsList-from_slice fixed_days cc) (λ x b q k. search (rules, tests))
