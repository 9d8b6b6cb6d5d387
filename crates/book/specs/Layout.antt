-- The layout of the book: where its lists are, and the book that it lays out.
use Rattle.std.specs.Prelude.{ℕ, ◌≡◌, List, [], ◌∷◌, Option, option_map}
use Rattle.format.specs.Field.{U, D}
use Rattle.format.specs.Codec.{field, O, ◌&◌, marked, up_to}
use Rattle.format.specs.Enumeration.{technique, forecast}
use Rattle.format.specs.Book as book
use Rattle.format.specs.Format as layout
use Rattle.format.specs.Verdict.{begin, end}
use Rattle.book.specs.declared.layout.Header.{Header}
use Rattle.book.specs.declared.layout.Plan.{Plan}
use Rattle.book.specs.declared.layout.Baseline.{Baseline}
use Rattle.book.specs.declared.layout.Ledger.{Ledger}
use Rattle.book.specs.declared.layout.Layout.{Layout}
use Rattle.sections.specs.Sections.{IsList, IsAlike, elements, alike_in}
use Rattle.format.specs.Position.{Pos}

-- ---- where the lists are: each begins where the one before it ends

abbrev pub IsHeader : List ℕ → Pos → Header → Type 0
IsHeader s p r =
    ((r.edition, (r.date, (r.technique, r.forecast))), r.next)
    ≡ (field (U 1 1) & O D & technique & forecast).read s p

pub record IsPlan (s : List ℕ) (p : Pos) (r : Plan) : Type 0 where
  pub calendars : IsAlike 1 16 layout.calendar s p r.calendars
  pub activities : IsAlike 0 500 (layout.activity r.calendars.count r.activities.count) s r.calendars.next r.activities
  pub resources : IsAlike 0 200 layout.resource s r.activities.next r.resources
  pub assignments : IsAlike 0 2000 (layout.assignment r.activities.count r.resources.count) s r.resources.next r.assignments
  pub expenses : IsAlike 0 1000 (layout.expense r.activities.count) s r.assignments.next r.expenses

unfoldable pub lines_of : List ℕ → ℕ → Baseline → Option (List book.BaselineLine)
lines_of s activities b = option_map (alike_in (layout.baseline_line activities) s) b.lines

abbrev pub IsBaseline : List ℕ → ℕ → Pos → Baseline → Type 0
IsBaseline s activities p r = (lines_of s activities r, r.next) ≡ (marked (up_to 1000 (layout.baseline_line activities))).read s p

pub record IsLedger (s : List ℕ) (activities : ℕ) (p : Pos) (r : Ledger) : Type 0 where
  pub baseline : IsBaseline s activities p r.baseline
  pub budgets : IsList 0 501 (layout.budget activities) (λ before b. b.activity ∷ before) [] s r.baseline.next r.budgets
  pub log : IsAlike 0 500 (layout.budget_change activities) s r.budgets.next r.log
  pub funds : IsAlike 0 100 layout.amount s r.log.next r.funds
  pub periods : IsAlike 0 240 (field D) s r.funds.next r.periods
  pub records : IsAlike 0 2000 (layout.period_record r.periods.count activities) s r.periods.next r.records

pub record IsLayout (s : List ℕ) (r : Layout) : Type 0 where
  pub header : IsHeader s (begin s) r.header
  pub plan : IsPlan s r.header.next r.plan
  pub ledger : IsLedger s r.plan.activities.count r.plan.expenses.next r.ledger
  pub last : r.end ≡ end s r.ledger.records.next

-- ---- the book that stands at the layout's places

unfoldable pub book_of : List ℕ → Layout → book.Book
book_of s l =
    let plan = l.plan in
    let ledger = l.ledger in
    let activities = plan.activities.count in
    record {
      data_date = l.header.date;
      technique = l.header.technique;
      forecast = l.header.forecast;
      calendars = alike_in layout.calendar s plan.calendars;
      activities = alike_in (layout.activity plan.calendars.count activities) s plan.activities;
      resources = alike_in layout.resource s plan.resources;
      assignments = alike_in (layout.assignment activities plan.resources.count) s plan.assignments;
      expenses = alike_in (layout.expense activities) s plan.expenses;
      baseline = lines_of s activities ledger.baseline;
      budgets = elements (layout.budget activities) (λ before b. b.activity ∷ before) [] s ledger.budgets;
      log = alike_in (layout.budget_change activities) s ledger.log;
      funds = alike_in layout.amount s ledger.funds;
      periods = alike_in (field D) s ledger.periods;
      records = alike_in (layout.period_record ledger.periods.count activities) s ledger.records;
    }
