-- `read_budgets` meets its contract: what is marked is what a budget before names.
use Rattle.std.specs.Prelude.{Option}
use Prim.Native.Nat.{ℕ}
use mathlib.Core.List.{List, [], ◌∷◌}
use Rattle.format.specs.Book as book
use Rattle.format.specs.Format.{budget}
use Rattle.sections.proofs.Lists.{Going}
use Rattle.sections.proofs.Marks.{Marked}
use Rattle.sections.proofs.budgets.read_budgets.Given as goal

abbrev pub invariant-loop : goal.invariant-loop
invariant-loop l =
    (before : List (Option ℕ)) × (Going (budget l.activities) (λ (before : List (Option ℕ)) (b : book.Budget). b.activity ∷ before) l.book l.count [] l.first l.counter before l.next × Marked l.marks before)
