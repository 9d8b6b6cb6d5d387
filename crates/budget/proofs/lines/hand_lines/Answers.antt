-- `hand_lines` meets its contract: those that are marked have a line.
use Prim.Native.Nat.{◌≤◌}
use native.Mathlib.Omega.{arith}
use lib.ListN.{length}
use Rattle.format.specs.Verdict.{content}
use Rattle.activities.proofs.Scheduling.{schedule_most}
use Rattle.ledger.specs.Arguments.{AreParents}
use Rattle.ledger.proofs.Handed.{above_length, number_below}
use Rattle.ledger.proofs.Named.{marked_most}
use Rattle.budget.proofs.Accepted.{numbers_parents, plan_parents, plan_budgets, plan_log}
use Rattle.budget.proofs.Lined.{lines_count}
use Rattle.budget.proofs.lines.hand_lines.Goals as goal
use Rattle.budget.proofs.lines.hand_lines.Goals.{Start}

above : (s : Start) → AreParents (content s.args.book.now) s.args.parents.now
above s = plan_parents s.requires.opened.plan s.requires.schedule_value.1

few : (s : Start) → length s.args.parents.now ≤ 500
few s = omega (arith, above_length (above s), (above s).most)

pub take_ledger-requires : goal.take_ledger-requires
take_ledger-requires c =
    let o = c.requires.opened in
    record { budgets = (plan_budgets o.plan o.ledger, plan_log o.plan o.ledger); accounts_value = c.requires.accounts_value }

pub parent_marks-leaves-requires : goal.parent_marks-leaves-requires
parent_marks-leaves-requires c = schedule_most c.requires.opened.plan c.requires.schedule_value.0

pub hand_up-requires : goal.hand_up-requires
hand_up-requires c = (few (goal.at.hand_up-requires c).Start, number_below (above (goal.at.hand_up-requires c).Start))

pub count_marked-requires : goal.count_marked-requires
count_marked-requires c = few (goal.at.count_marked-requires c).Start

pub overflow_add-result : goal.overflow_add-result
overflow_add-result c = omega (arith, c.count_marked.ensures, marked_most c.hand_up.new.marks (length c.args.parents.now), few (goal.at.overflow_add-result c).Start)

pub returns : goal.returns
returns c =
    let s = (goal.at.returns c).Start in
    let book = content s.args.book.now in
    let marks = c.hand_up.new.marks in
    let n = length s.args.parents.now in
    let handed = c.hand_up.ensures book (above s) (c.parent_marks-leaves.ensures book s.requires.schedule_value.0) c.take_ledger.ensures in record {
      most = omega (arith, c.count_marked.ensures, marked_most marks n, few s);
      handed = handed;
      count = omega (arith, c.count_marked.ensures, lines_count book marks n (numbers_parents (above s)) handed.lined);
    }
