-- The lines as the code has them, from the table of accounts.
use Rattle.std.specs.Prelude.{ℕ, ◌+◌, ◌*◌, List, ◌∷◌, map, ℤ, length, None, Some}
use Rattle.sections.specs.Sections.{mark_of}
use Rattle.model.specs.Tree.{steps_made}
use Rattle.model.specs.Budgets.{Account, BudgetLine}
use Rattle.tree.specs.Figures.{parents_of, figure_of, saturating_add}
use Rattle.ledger.specs.declared.lines.Line.{Line}
use Rattle.ledger.specs.Accounts.{account_figure, current_in, marked_of}

unfoldable pub line_of : Line → BudgetLine
line_of l =
    record {
      activity = l.activity;
      depth = l.depth;
      original = l.original;
      current = l.current;
      proposed = l.proposed;
      distributed = l.distributed;
      planned = l.planned;
      scheduled = l.scheduled;
    }

-- the line of an account
unfoldable pub line_in : List ℤ → Account → ℕ → ℤ → BudgetLine
line_in table account depth scheduled =
    record {
      activity = account;
      depth = depth;
      original = account_figure table (mark_of account) 0;
      current = current_in table (mark_of account);
      proposed = saturating_add (current_in table (mark_of account)) (account_figure table (mark_of account) 2);
      distributed = account_figure table (mark_of account) 5;
      planned = account_figure table (mark_of account) 1;
      scheduled = scheduled;
    }

-- that of an activity, whose costs are three figures: the first is the planned one
unfoldable pub activity_line : List ℤ → List ℕ → List ℤ → ℕ → BudgetLine
activity_line table parents costs i = line_in table (Some i) (1 + steps_made (parents_of parents) (length parents) i) (figure_of costs (i * 3))

-- the project's, then those of the marked activities
unfoldable pub lines_in : List ℤ → List ℕ → List ℤ → List ℕ → ℤ → List BudgetLine
lines_in table parents costs marks whole = line_in table None 0 whole ∷ map (activity_line table parents costs) (marked_of marks (length parents))
