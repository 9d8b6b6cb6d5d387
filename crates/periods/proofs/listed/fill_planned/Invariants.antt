-- `fill_planned` meets its contract: one date a turn.
use Prim.Native.Nat.{ℕ}
use mathlib.Core.Path.{◌≡◌}
use lib.ListN.{length}
use Rattle.format.specs.Book.{Book}
use Rattle.model.specs.Tree.{parents}
use Rattle.model.specs.Earned.{project_earned}
use Rattle.flat.proofs.Mapped.{Mapped}
use Rattle.tree.specs.Figures.{MarksLeaves}
use Rattle.planned.specs.Reached.{AreDays}
use Rattle.periods.proofs.listed.fill_planned.Given as goal

abbrev pub invariant-loop-i : goal.invariant-loop-i
invariant-loop-i l =
    (length l.out ≡ length l.dates) × ((b : Book) → AreDays b l.known l.listed l.budgets l.days → MarksLeaves l.marks (parents b) → Mapped (λ (d : ℕ). (project_earned b d).planned) l.dates l.i l.out)
