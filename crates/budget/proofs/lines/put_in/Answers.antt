-- `put_in` meets its contract: what is scheduled, then the lines.
use native.Mathlib.Omega.{arith}
use mathlib.Core.Path.{◌≡◌, sym, ap, ◌∙◌}
use Prim.Native.Nat.{ℕ, ◌*◌, ◌≤◌}
use mathlib.Core.List.{List}
use lib.ListN.{length}
use mir.Syntax.{w64}
use Rattle.integer.specs.Linear.{seen, back}
use Rattle.format.specs.Verdict.{content}
use Rattle.book.proofs.Plan.{activities_most}
use Rattle.model.specs.Tree.{parents}
use Rattle.model.specs.Budgets.{BudgetLine, budget_lines}
use Rattle.activities.proofs.Scheduling.{parents_of_lem}
use Rattle.tree.proofs.Figured.{rolled_long}
use Rattle.ledger.specs.Arguments.{AreParents}
use Rattle.ledger.specs.Lines.{lines_in}
use Rattle.ledger.proofs.Handed.{above_length}
use Rattle.ledger.proofs.Lined.{lines_are}
use Rattle.budget.proofs.Accepted.{parents_count, numbers_parents, plan_parents}
use Rattle.budget.proofs.Lined.{scheduled_at, rows_are}
use borrow.Author.Rules.{rules}
use Rattle.budget.proofs.lines.put_in.Goals as goal
use Rattle.budget.proofs.lines.put_in.Goals.{After-scheduled-whole}

few : (c : After-scheduled-whole) → length (parents (content c.args.book.now)) ≤ 500
few c = omega (arith, parents_count c.requires.opened.plan, activities_most c.requires.opened.plan)

above : (c : After-scheduled-whole) → AreParents (content c.args.book.now) c.args.parents.now
above c = plan_parents c.requires.opened.plan c.requires.schedule_value.1

-- what is put is the lines of the book
lines :
    (c : After-scheduled-whole) →
    lines_in c.args.accounts.now c.args.parents.now c.scheduled-whole.new.out c.args.marks.now (seen w64 c.scheduled-whole.result)
    ≡ budget_lines (content c.args.book.now)
lines c =
    let book = content c.args.book.now in
    lines_are book c.args.parents.now c.args.marks.now c.scheduled-whole.new.out (numbers_parents (above c)) (few c)
    (parents_of_lem c.requires.opened.plan c.requires.schedule_value.1) c.requires.handed.lined (scheduled_at book c.scheduled-whole.ensures.each) (back w64 c.scheduled-whole.result c.scheduled-whole.type_inv ∙ c.scheduled-whole.ensures.whole) c.requires.handed.table

pub put_lines-requires : goal.put_lines-requires
put_lines-requires c =
    let s = (goal.at.put_lines-requires c).After-scheduled-whole in
    let book = content c.args.book.now in record {
      parents_len_bound = (omega (arith, numbers_parents (above s), few s), rolled_long book c.scheduled-whole.ensures.each ∙ ap (λ (k : ℕ). k * 3) (sym (above_length (above s))));
      out_len = c.requires.out_len ∙ ap (λ (ls : List BudgetLine). length ls * 10) (sym (lines s));
    }

pub returns : goal.returns
returns c =
    c.put_lines.ensures ∙ rows_are (content c.args.book.now) (lines (goal.at.returns c).After-scheduled-whole)
