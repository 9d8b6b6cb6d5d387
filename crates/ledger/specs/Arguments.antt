-- What the functions ask of their arguments.
use Rattle.std.specs.Prelude.{ℕ, ◌≤◌, ◌<◌, ◌≡◌, List, map, ℤ, length, Option}
use Rattle.format.specs.Inverse.{Given}
use Rattle.format.specs.Book as book
use Rattle.format.specs.InRange.{Every, NoTwoAlike, BudgetInRange, BudgetChangeInRange}
use Rattle.format.specs.Field.{index}
use Rattle.format.specs.Codec.{O}
use Rattle.format.specs.Format as layout
use Rattle.format.specs.Verdict.{content}
use Rattle.sections.specs.declared.Section.{Section}
use Rattle.sections.specs.declared.budgets.Budget.{Budget}
use Rattle.sections.specs.Sections.{alike_in, budget_of, mark_of}
use Rattle.book.specs.Plan.{budgets_in}
use Rattle.tree.specs.Figures.{is_unmarked}
use Rattle.ledger.specs.Accounts.{booked, accounts, MarksNamed, MarksLines}
use Rattle.format.specs.Position.{Pos}

-- the budgets of an accepted book with so many activities
pub record IsBudgets (s : List ℕ) (list : Section) (activities : ℕ) : Type 0 where
  pub most : activities ≤ 500
  pub listed : (content s).budgets ≡ budgets_in s activities list
  pub ranges : Every (BudgetInRange activities) (content s).budgets
  pub named : NoTwoAlike (map (λ (b : book.Budget). b.activity) (content s).budgets)

-- the log of one
pub record IsLog (s : List ℕ) (list : Section) (activities : ℕ) : Type 0 where
  pub most : activities ≤ 500
  pub listed : (content s).log ≡ alike_in (layout.budget_change activities) s list
  pub ranges : Every (BudgetChangeInRange activities) (content s).log

-- the budget that is read at a place, where the marks say whether what it names is new
abbrev pub IsBudgetAt : List ℕ → ℕ → List ℕ → Pos → Budget → Type 0
IsBudgetAt s activities marks at b =
    (before : List (Option ℕ)) →
    is_unmarked marks (mark_of ((O (index activities)).read s at).0) ≡ layout.is_new before ((O (index activities)).read s at).0 →
    (budget_of s b, b.next) ≡ (layout.budget activities before).read s at

-- the parents of a book's activities, by the numbers of their accounts
pub record AreParents (b : book.Book) (numbers : List ℕ) : Type 0 where
  pub most : length b.activities ≤ 500
  pub above : numbers ≡ map (λ (a : book.Activity). mark_of a.parent) b.activities
  pub inside : Every (λ (a : book.Activity). Given (λ (i : ℕ). i < length b.activities) a.parent) b.activities

-- the table as the budgets and the log make it, and the marks of those that they name
pub record IsBooked (b : book.Book) (figures : List ℤ) (marks : List ℕ) : Type 0 where
  pub table : figures ≡ booked b
  pub long : length marks ≡ 501
  pub named : MarksNamed marks b

-- the table with what is distributed, and the marks of those that have a line
pub record IsHanded (b : book.Book) (figures : List ℤ) (marks : List ℕ) : Type 0 where
  pub table : figures ≡ accounts b
  pub lined : MarksLines marks b
