-- `take_changes` meets its contract: one change a turn.
use Prim.Native.Nat.{ℕ, ◌-◌}
use mathlib.Core.Path.{ap}
use lib.ListN.{set}
use Rattle.format.specs.Codec.{stay}
use Rattle.format.specs.Format.{budget_change}
use Rattle.format.specs.Verdict.{content}
use Rattle.records.specs.Decoded.{budget_change_of}
use Rattle.ledger.specs.Accounts.{change_place, change_taken, marked_by}
use Rattle.ledger.proofs.Reading.{Reading, reading_none, reading_more, reading_next, reading_end, Folded, folded_none, folded_more, folded_end}
use borrow.Author.Rules.{rules}
use Rattle.ledger.proofs.changes.take_changes.Given as goal

abbrev pub invariant-loop : goal.invariant-loop
invariant-loop l =
    Reading (λ (x : Unit {0}). budget_change l.activities) stay l.book (content l.book).log l.end l.counter tt l.next
    × Folded change_taken l.initial.accounts (content l.book).log l.counter l.accounts
    × Folded (marked_by change_place) l.initial.marks (content l.book).log l.counter l.marks
