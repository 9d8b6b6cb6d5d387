-- `leaves_planned` meets its contract. The loop's invariant: the sum so far, with what is left, is the whole.
use Prim.Native.Nat.{ℕ, ◌≤◌}
use mathlib.Core.Path.{◌≡◌}
use mathlib.Core.List.{List, map}
use lib.IntN.{ℤ}
use lib.ListN.{length}
use Rattle.lists.specs.Lists.{span}
use Rattle.tree.specs.Figures.{unmarked_sum}
use Rattle.tree.proofs.Leaves.{sum_from}
use Rattle.planned.specs.Values.{planned_at}
use Rattle.planned.proofs.own.leaves_planned.Given as goal

-- the planned values of all
abbrev pub values : (date base width : ℕ) (days listed : List ℕ) (budgets : List ℤ) → List ℤ
values date base width days listed budgets = map (planned_at base width days date listed budgets) (span 0 (length budgets))

abbrev pub invariant-loop-i : goal.invariant-loop-i
invariant-loop-i l =
    (l.i ≤ length l.budgets) × (sum_from l.marks (values l.date l.base l.width l.days l.listed l.budgets) l.sum l.i ≡ unmarked_sum l.marks (values l.date l.base l.width l.days l.listed l.budgets))
