-- `project_changes` meets its contract: one change a turn.
use Rattle.std.specs.Prelude.{None}
use lib.IntN.{pos}
use Rattle.format.specs.declared.ChangeStatus.TheVariants.{Approved}
use Rattle.format.specs.Codec.{stay}
use Rattle.format.specs.Format.{budget_change}
use Rattle.format.specs.Verdict.{content}
use Rattle.budget.specs.Project.{added_to}
use Rattle.ledger.proofs.Reading.{Reading, Folded}
use Rattle.budget.proofs.project.project_changes.Given as goal

abbrev pub invariant-loop : goal.invariant-loop
invariant-loop l =
    Reading (λ (x : Unit {0}). budget_change l.activities) stay l.book (content l.book).log l.count l.counter tt l.next
    × Folded (added_to None Approved) (pos 0) (content l.book).log l.counter l.sum
