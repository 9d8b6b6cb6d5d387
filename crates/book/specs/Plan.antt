-- The plan of an accepted book: the content's lists are what stands at its places.
use Rattle.std.specs.Prelude.{ℕ, ◌≡◌, List, [], ◌∷◌, Option}
use Rattle.format.specs.Field.{D}
use Rattle.format.specs.Codec.{Codec, field}
use Rattle.format.specs.Book.{Budget}
use Rattle.format.specs.Format as layout
use Rattle.format.specs.Verdict.{content, Accepted}
use Rattle.sections.specs.declared.Section.{Section}
use Rattle.book.specs.declared.layout.Plan.{Plan}
use Rattle.book.specs.declared.layout.Baseline.{Baseline}
use Rattle.book.specs.declared.layout.Ledger.{Ledger}
use Rattle.sections.specs.Sections.{elements, alike_in}
use Rattle.book.specs.Layout.{lines_of}

-- xs are the elements of a list of the book
pub record Placed {A : Type 0} (c : Codec A) (s : List ℕ) (l : Section) (xs : List A) : Type 0 where
  pub listed : xs ≡ alike_in c s l

-- s is an accepted book, with this data date and this plan
pub record IsPlanOf (s : List ℕ) (date : Option ℕ) (plan : Plan) : Type 0 where
  pub accepted : Accepted s
  pub data_date : (content s).data_date ≡ date
  pub calendars : Placed layout.calendar s plan.calendars (content s).calendars
  pub activities : Placed (layout.activity plan.calendars.count plan.activities.count) s plan.activities (content s).activities
  pub resources : Placed layout.resource s plan.resources (content s).resources
  pub assignments : Placed (layout.assignment plan.activities.count plan.resources.count) s plan.assignments (content s).assignments
  pub expenses : Placed (layout.expense plan.activities.count) s plan.expenses (content s).expenses

-- the book with this plan has this baseline
pub record IsBaselineOf (s : List ℕ) (plan : Plan) (baseline : Baseline) : Type 0 where
  pub lines : (content s).baseline ≡ lines_of s plan.activities.count baseline

-- the budgets at a place of the book: none of them names what one before it does
abbrev pub budgets_in : List ℕ → ℕ → Section → List Budget
budgets_in s activities l = elements (layout.budget activities) (λ before b. b.activity ∷ before) [] s l

-- the book with this plan has this ledger
pub record IsLedgerOf (s : List ℕ) (plan : Plan) (ledger : Ledger) : Type 0 where
  pub baseline : IsBaselineOf s plan ledger.baseline
  pub budgets : (content s).budgets ≡ budgets_in s plan.activities.count ledger.budgets
  pub log : (content s).log ≡ alike_in (layout.budget_change plan.activities.count) s ledger.log
  pub funds : (content s).funds ≡ alike_in layout.amount s ledger.funds
  pub periods : (content s).periods ≡ alike_in (field D) s ledger.periods
  pub records : (content s).records ≡ alike_in (layout.period_record ledger.periods.count plan.activities.count) s ledger.records
