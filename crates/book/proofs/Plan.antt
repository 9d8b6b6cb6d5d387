-- The plan of an accepted book, from its layout.
use Rattle.std.specs.Prelude.{None, Option, Some, unwrap_or, ℕ, Ok}
use Prim.Native.Nat.{ℕ, ◌≤◌}
use native.Mathlib.Omega.{arith}
use mathlib.Core.Path.{◌≡◌, ap, sym, ◌∙◌}
use mathlib.Core.List.{List, []}
use lib.ListN.{length}
use Rattle.format.specs.Bytes.{Bytes}
use Rattle.format.specs.Inverse.{Given}
use Rattle.format.specs.Codec.{Codec, stay}
use Rattle.format.specs.Book.{BaselineLine, Book}
use Rattle.format.specs.Verdict.{content, verdict}
use Rattle.format.specs.InRange.{Every, ActivityInRange, AssignmentInRange, ExpenseInRange, BaselineLineInRange, BaselineInRange, BudgetInRange, BudgetChangeInRange, PeriodRecordInRange}
use Rattle.format.proofs.Walks.{times_length}
use Rattle.format.proofs.Theorems.{verdict_accepts, content_limits, content_in_range}
use Rattle.sections.specs.declared.Section.{Section}
use Rattle.book.specs.declared.layout.Plan.{Plan}
use Rattle.book.specs.declared.layout.Ledger.{Ledger}
use Rattle.book.specs.declared.layout.Layout.{Layout}
use Rattle.sections.specs.Sections.{elements, alike_in}
use Rattle.book.specs.Layout.{IsLayout, book_of}
use Rattle.book.specs.Plan.{Placed, IsPlanOf, IsBaselineOf, IsLedgerOf}
use Rattle.book.proofs.Whole.{layout_book}

-- ---- from the layout

module _ (s : List ℕ) (r : Layout) (l : IsLayout s r) where
  same : book_of s r ≡ content s
  same = ap (λ v. v.0) (layout_book s r l)

  pub baseline_of : IsBaselineOf s r.plan r.ledger.baseline
  unfolding book_of
  baseline_of = record { lines = sym (ap (λ (b : Book). b.baseline) same) }

  pub ledger_of : IsLedgerOf s r.plan r.ledger
  unfolding book_of
  ledger_of =
      record {
        baseline = baseline_of;
        budgets = sym (ap (λ (b : Book). b.budgets) same);
        log = sym (ap (λ (b : Book). b.log) same);
        funds = sym (ap (λ (b : Book). b.funds) same);
        periods = sym (ap (λ (b : Book). b.periods) same);
        records = sym (ap (λ (b : Book). b.records) same);
      }

  pub technique_of_lem : (content s).technique ≡ r.header.technique
  unfolding book_of
  technique_of_lem = sym (ap (λ (b : Book). b.technique) same)

  pub forecast_of_lem : (content s).forecast ≡ r.header.forecast
  unfolding book_of
  forecast_of_lem = sym (ap (λ (b : Book). b.forecast) same)

  module _ (j : ℕ) (accepted : verdict s ≡ Ok j) where
    pub plan_of : Bytes s → IsPlanOf s r.header.date r.plan
    unfolding book_of
    plan_of bytes =
        record {
          accepted = verdict_accepts s bytes j accepted;
          data_date = sym (ap (λ (b : Book). b.data_date) same);
          calendars = record { listed = sym (ap (λ (b : Book). b.calendars) same) };
          activities = record { listed = sym (ap (λ (b : Book). b.activities) same) };
          resources = record { listed = sym (ap (λ (b : Book). b.resources) same) };
          assignments = record { listed = sym (ap (λ (b : Book). b.assignments) same) };
          expenses = record { listed = sym (ap (λ (b : Book). b.expenses) same) };
        }

-- ---- counts

-- the lines of a baseline that may be absent
lines_range : (n : ℕ) (o : Option (List BaselineLine)) → Given (BaselineInRange n) o → Every (BaselineLineInRange n) (unwrap_or o [])
lines_range n None h = λ k d l. absurd (omega arith)
lines_range n (Some l) h = h.lines

pub alike_length : {A : Type 0} (c : Codec A) (s : List ℕ) (r : Section) → length (alike_in c s r) ≡ r.count
unfolding elements
alike_length c s r = times_length (λ x. c) stay s r.count tt r.first

pub placed_count : {A : Type 0} {c : Codec A} {s : List ℕ} {l : Section} {xs : List A} → Placed c s l xs → length xs ≡ l.count
placed_count {c} {s} {l} p = ap length p.listed ∙ alike_length c s l

module _ {s : List ℕ} {date : Option ℕ} {plan : Plan} (p : IsPlanOf s date plan) where
  pub calendars_count : length (content s).calendars ≡ plan.calendars.count
  calendars_count = placed_count p.calendars

  pub activities_count : length (content s).activities ≡ plan.activities.count
  activities_count = placed_count p.activities

  pub resources_count : length (content s).resources ≡ plan.resources.count
  resources_count = placed_count p.resources

  pub assignments_count : length (content s).assignments ≡ plan.assignments.count
  assignments_count = placed_count p.assignments

  pub expenses_count : length (content s).expenses ≡ plan.expenses.count
  expenses_count = placed_count p.expenses

  pub calendars_least : 1 ≤ plan.calendars.count
  calendars_least = rw calendars_count at (content_limits s p.accepted).some_calendar

  pub calendars_most : plan.calendars.count ≤ 16
  calendars_most = rw calendars_count at (content_limits s p.accepted).calendars

  pub activities_most : plan.activities.count ≤ 500
  activities_most = rw activities_count at (content_limits s p.accepted).activities

  pub resources_most : plan.resources.count ≤ 200
  resources_most = rw resources_count at (content_limits s p.accepted).resources

  pub assignments_most : plan.assignments.count ≤ 2000
  assignments_most = rw assignments_count at (content_limits s p.accepted).assignments

  pub expenses_most : plan.expenses.count ≤ 1000
  expenses_most = rw expenses_count at (content_limits s p.accepted).expenses

  -- ---- ranges, with the plan's counts

  pub activities_in_range : Every (ActivityInRange plan.calendars.count plan.activities.count) (content s).activities
  activities_in_range = rw (← calendars_count, ← activities_count) (content_in_range s p.accepted).activities

  pub assignments_in_range : Every (AssignmentInRange plan.activities.count plan.resources.count) (content s).assignments
  assignments_in_range = rw (← activities_count, ← resources_count) (content_in_range s p.accepted).assignments

  pub expenses_in_range : Every (ExpenseInRange plan.activities.count) (content s).expenses
  expenses_in_range = rw (← activities_count) (content_in_range s p.accepted).expenses

  pub lines_in_range : Every (BaselineLineInRange plan.activities.count) (unwrap_or (content s).baseline [])
  lines_in_range = rw (← activities_count) (lines_range _ (content s).baseline (content_in_range s p.accepted).baseline)

  pub budgets_in_range : Every (BudgetInRange plan.activities.count) (content s).budgets
  budgets_in_range = rw (← activities_count) (content_in_range s p.accepted).budgets

  pub log_in_range : Every (BudgetChangeInRange plan.activities.count) (content s).log
  log_in_range = rw (← activities_count) (content_in_range s p.accepted).log

  -- ---- of the ledger's lists

  module _ {ledger : Ledger} (l : IsLedgerOf s plan ledger) where
    pub periods_count : length (content s).periods ≡ ledger.periods.count
    periods_count = ap length l.periods ∙ alike_length _ s ledger.periods

    pub periods_most : ledger.periods.count ≤ 240
    periods_most = rw periods_count at (content_limits s p.accepted).periods

    pub records_in_range : Every (PeriodRecordInRange ledger.periods.count plan.activities.count) (content s).records
    records_in_range = rw (← periods_count, ← activities_count) (content_in_range s p.accepted).records
