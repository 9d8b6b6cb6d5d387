-- `first_day` meets its contract: the table's rule.
use mathlib.Core.Path.{ap, ◌∙◌}
use mathlib.Core.List.{List}
use Prim.Native.Nat.{ℕ}
use lib.ListN.{get_or}
use Rattle.months.proofs.Table.{entries}
use Rattle.months.proofs.first_day.Goals as goal

pub returns : goal.returns
returns c =
    let i = c.args.i in
    let (is, h) = c.requires in
    c.from.ensures ∙ ap (λ (xs : List ℕ). get_or xs i 0) is ∙ entries i h
