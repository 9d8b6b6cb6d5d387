-- What planned value is made of, and what no date changes.
use Rattle.std.specs.Prelude.{ℕ, ◌*◌, ◌≡◌, List, ℤ, length}
use Rattle.format.specs.Book.{Book}
use Rattle.model.specs.Tree.{parents}
use Rattle.tree.specs.Figures.{MarksLeaves}
use Rattle.tree.specs.Tables.{own_costs}
use Rattle.activities.specs.Schedule.{schedule_of}
use Rattle.baseline.specs.Listed.{listed_of, budgets_of}

-- the schedule, the own costs, the listed spans, the budgets of the leaves
pub record AreColumns (book : Book) (schedule : List ℕ) (costs : List ℤ) (listed : List ℕ) (budgets : List ℤ) : Type 0 where
  pub scheduled : schedule ≡ schedule_of book
  pub charged : costs ≡ own_costs book
  pub spanned : listed ≡ listed_of book
  pub budgeted : budgets ≡ budgets_of book

-- with room for n activities
pub record HasRoom (n : ℕ) (schedule : List ℕ) (costs : List ℤ) (listed : List ℕ) (budgets : List ℤ) : Type 0 where
  pub schedule_long : length schedule ≡ n * 13
  pub costs_long : length costs ≡ n * 3
  pub listed_long : length listed ≡ n * 3
  pub budgets_long : length budgets ≡ n

-- the marks of the parents, the listed spans, the budgets of the leaves
pub record ArePhased (book : Book) (marks listed : List ℕ) (budgets : List ℤ) : Type 0 where
  pub marked : MarksLeaves marks (parents book)
  pub spanned : listed ≡ listed_of book
  pub budgeted : budgets ≡ budgets_of book
