-- `put_alone` meets its contract: too short a slice, or one row.
use Rattle.std.specs.Prelude.{None}
use native.Mathlib.Omega.{arith}
use mathlib.Core.Path.{◌≡◌, refl, sym, ap, ◌∙◌}
use mathlib.Core.List.{flat_map, append-nil}
use lib.IntN.{pos}
use lib.ListN.{length, take}
use lib.Seq.{length-take-le}
use Rattle.format.specs.Verdict.{content}
use Rattle.book.proofs.Plan.{activities_count}
use Rattle.answers.specs.Rows.{budget_row, budget_rows}
use Rattle.answers.proofs.Sized.{Sized, no_room, in_front}
use Rattle.flat.proofs.Sets.{sets_whole}
use Rattle.ledger.specs.Lines.{line_in}
use Rattle.ledger.proofs.Lined.{row_long}
use Rattle.budget.proofs.Accepted.{plan_budgets, plan_log}
use Rattle.budget.proofs.Lined.{alone, rows_are}
use Rattle.budget.proofs.Sized.{budget_sized}
use borrow.Author.Rules.{rules}
use Rattle.budget.proofs.put_alone.Goals as goal
use Rattle.budget.proofs.put_alone.Goals.{Start}

none_active : (s : Start) → length (content s.args.book.now).activities ≡ 0
none_active s = activities_count s.requires.opened.plan ∙ s.requires.count_value

-- the project's line is the only one
one_row : (s : Start) → Sized (budget_rows (content s.args.book.now)) 1 10
one_row s = budget_sized _ 1 (ap length (alone (content s.args.book.now) (none_active s) refl))

pub returns-then-out-lt10 : goal.returns-then-out-lt10
returns-then-out-lt10 c =
    no_room (budget_rows (content c.args.book.now)) _ (one_row (goal.at.returns-then-out-lt10 c).Start) (omega (arith, c.if-out-lt10.true))

pub take_ledger-requires : goal.take_ledger-requires
take_ledger-requires c = let o = c.requires.opened in record { budgets = (plan_budgets o.plan o.ledger, plan_log o.plan o.ledger); accounts_value = (refl, refl) }

pub slice_bounds-put_project-end-2 : goal.slice_bounds-put_project-end-2
slice_bounds-put_project-end-2 c =
    sym (length-take-le 10 c.args.out.now (omega (arith, c.if-out-lt10.false)))

pub put_project-requires : goal.put_project-requires
put_project-requires c = omega (arith, slice_bounds-put_project-end-2 c)

pub returns : goal.returns
unfolding flat_map
returns c =
    let book = content c.args.book.now in
    let row = budget_row (line_in c.take_ledger.new.accounts None 0 (pos 0)) in
    in_front (budget_rows book) c.args.out.now (one_row (goal.at.returns c).Start) (omega (arith, c.if-out-lt10.false)) _
    (c.put_project.ensures
    ∙ sets_whole row (take 10 c.args.out.now) (row_long _ ∙ sym (length-take-le 10 c.args.out.now (omega (arith, c.if-out-lt10.false))))
    ∙ sym (append-nil row)
    ∙ rows_are book (alone book (none_active (goal.at.returns c).Start) c.take_ledger.ensures.table))
