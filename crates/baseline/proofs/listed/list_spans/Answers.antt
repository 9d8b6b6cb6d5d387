-- `list_spans` meets its contract: the table of lines has room for the activities, few or not.
use Prim.Native.Nat.{◌≤◌}
use native.Mathlib.Omega.{arith}
use mathlib.Core.Path.{sym, subst}
use lib.ListN.{length}
use Rattle.format.specs.Verdict.{content}
use Rattle.format.specs.InRange.{InRange}
use Rattle.format.proofs.Theorems.{content_in_range}
use Rattle.book.proofs.Plan.{activities_most}
use Rattle.baseline.specs.Lines.{IsLines}
use Rattle.baseline.proofs.Listing.{lines_are}
use Rattle.baseline.proofs.listed.list_spans.Goals as goal
use Rattle.baseline.proofs.listed.list_spans.Goals.{After-lines_of-list}

-- the lines that are read
read : (c : After-lines_of-list) → IsLines c.args.book.now c.lines_of-list.result (length c.args.budgets.now) × InRange (content c.args.book.now) × (length c.args.budgets.now ≤ 500)
read c =
    let p = c.requires.opened.plan in (
      subst (IsLines c.args.book.now c.lines_of-list.result) (sym c.requires.listed_len.1) (lines_are p c.requires.opened.ledger.baseline _ (c.lines_of-list.ensures _ _)),
      content_in_range c.args.book.now p.accepted,
      omega (arith, c.requires.listed_len.1, activities_most p),
    )

pub list_by-requires : goal.list_by-requires
list_by-requires c =
    let n = c.requires.listed_len in
    record {
      lines = read (goal.at.list_by-requires c).After-lines_of-list;
      room = (omega arith, omega arith);
      schedule_value = c.requires.schedule_value;
      costs_value = c.requires.costs_value;
      listed_len = omega (arith, n.0, n.1);
    }

pub list_by-requires-else-budgets-le-FEW : goal.list_by-requires-else-budgets-le-FEW
list_by-requires-else-budgets-le-FEW c =
    let n = c.requires.listed_len in
    let lines = read (goal.at.list_by-requires-else-budgets-le-FEW c).After-lines_of-list in
    record {
      lines = lines;
      room = (omega (arith, lines.2), omega arith);
      schedule_value = c.requires.schedule_value;
      costs_value = c.requires.costs_value;
      listed_len = omega (arith, n.0, n.1);
    }
