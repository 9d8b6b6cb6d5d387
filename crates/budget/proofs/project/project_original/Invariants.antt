-- `project_original` meets its contract: it is looked for, one budget a turn.
use Rattle.std.specs.Prelude.{None}
use Rattle.format.specs.Verdict.{content}
use Rattle.ledger.proofs.Naming.{Naming}
use Rattle.budget.proofs.Sought.{Seeking}
use Rattle.budget.proofs.project.project_original.Given as goal

abbrev pub invariant-loop : goal.invariant-loop
invariant-loop l = Naming l.book l.activities l.count l.counter l.marks l.next × Seeking None (content l.book).budgets l.counter
