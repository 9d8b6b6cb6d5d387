-- `take_changes` meets its contract: one change a turn.
use Prim.Native.Nat.{ℕ, ◌-◌}
use mathlib.Core.Path.{ap}
use lib.ListN.{set}
use Rattle.format.specs.Codec.{stay}
use Rattle.format.specs.Format.{budget_change}
use Rattle.format.specs.Verdict.{content}
use Rattle.records.specs.Decoded.{budget_change_of}
use Rattle.ledger.specs.Accounts.{change_place, change_taken, marked_by}
use Rattle.ledger.proofs.Reading.{Reading, reading_none, reading_more, reading_next, reading_end, Folded, folded_none, folded_more, folded_end}
use borrow.Author.Rules.{rules}
use Rattle.ledger.proofs.changes.take_changes.Goals as goal

pub loop-init : goal.loop-init
loop-init c =
    (reading_none (λ (x : Unit {0}). budget_change c.args.activities) stay _ _ tt c.args.list c.requires.listed, folded_none _ _ _, folded_none _ _ _)

pub loop-preserved : goal.loop-preserved
unfolding budget_change_of
loop-preserved c =
    let l = c.loop in
    let more = c.loop-test.true in
    let e = reading_next l.invariant.0 more c.read_budget_change-change.ensures in (
      reading_more l.invariant.0 more c.read_budget_change-change.ensures,
      folded_more l.invariant.1 e _ c.take_change.ensures,
      folded_more l.invariant.2 e _ (ap (λ (k : ℕ). set l.marks k 1) c.account_number-k.ensures.0),
    )

pub returns : goal.returns
returns c =
    let l = c.loop in
    let all = reading_end l.invariant.0 c.loop-test.false in
    record { table = folded_end l.invariant.1 all; named = folded_end l.invariant.2 all }
