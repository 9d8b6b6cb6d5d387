-- What holds of the content of every accepted book, field by field.
use Rattle.std.specs.Prelude.{ℕ, ◌≤◌, ◌<◌, ◌≡◌, List, map, length, get_or, ℤ, None, Option}
use Rattle.std.specs.Int.{w64}
use Rattle.std.proofs.Common.{SFits}
use Rattle.format.specs.declared.EvTechnique.TheVariants.{Custom}
use Rattle.format.specs.Inverse.{Given}
use Rattle.format.specs.Book.{Exception, Calendar, Activity, Price, Resource, Assignment, Expense, BaselineLine, Budget, BudgetChange, PeriodRecord, Book}

-- ---- of a number

-- D's range
pub record IsDate (d : ℕ) : Type 0 where
  pub first : 10957 ≤ d
  pub last : d ≤ 47481

-- a signed number fits 64 bits
abbrev pub Fits64 : ℤ → Type 0
Fits64 z = SFits w64 z

-- minutes
abbrev pub IsMinutes : ℕ → Type 0
IsMinutes m = m ≤ 1000000000

-- ---- of a list

-- of every element; d stands where there is none
abbrev pub Every : {A : Type 0} → (A → Type 0) → List A → Type 0
Every {A} P l = (k : ℕ) (d : A) → k < length l → P (get_or l k d)

-- strictly rising
abbrev pub Rising : List ℕ → Type 0
Rising l = (j k : ℕ) → j < k → k < length l → get_or l j 0 < get_or l k 0

-- no two alike; none is the project
abbrev pub NoTwoAlike : List (Option ℕ) → Type 0
NoTwoAlike l = (j k : ℕ) → j < k → k < length l → get_or l j None ≡ get_or l k None → ⊥

-- the days of holidays, extra days or exceptions
pub record Days (l : List ℕ) : Type 0 where
  pub most : length l ≤ 366
  pub dates : Every IsDate l
  pub rising : Rising l

-- ---- of a record: a fact of each field, under its name

pub record CalendarInRange (c : Calendar) : Type 0 where
  pub week : c.week ≤ 127
  pub holidays : Days c.holidays
  pub extra_days : Days c.extra_days
  pub exceptions : Days (map (λ (e : Exception). e.day) c.exceptions)

pub record ActivityInRange (calendars activities : ℕ) (a : Activity) : Type 0 where
  pub parent : Given (λ i. i < activities) a.parent
  pub calendar : Given (λ i. i < calendars) a.calendar
  pub early_start : IsDate a.early_start
  pub early_finish : IsDate a.early_finish
  pub actual_start : Given IsDate a.actual_start
  pub actual_finish : Given IsDate a.actual_finish
  pub working_minutes : IsMinutes a.working_minutes
  pub remaining_minutes : IsMinutes a.remaining_minutes
  pub percent : Given Fits64 a.percent

pub record PriceInRange (p : Price) : Type 0 where
  pub from : Given IsDate p.from
  pub per_unit : Fits64 p.per_unit

pub record ResourceInRange (r : Resource) : Type 0 where
  pub most : length r.prices ≤ 40
  pub prices : Every PriceInRange r.prices

pub record AssignmentInRange (activities resources : ℕ) (a : Assignment) : Type 0 where
  pub activity : a.activity < activities
  pub resource : Given (λ i. i < resources) a.resource
  pub planned : Fits64 a.planned
  pub actual : Fits64 a.actual
  pub remaining : Fits64 a.remaining

pub record ExpenseInRange (activities : ℕ) (e : Expense) : Type 0 where
  pub activity : e.activity < activities
  pub planned : Fits64 e.planned
  pub actual : Fits64 e.actual
  pub remaining : Fits64 e.remaining

pub record BaselineLineInRange (activities : ℕ) (l : BaselineLine) : Type 0 where
  pub activity : l.activity < activities
  pub start : IsDate l.start
  pub finish : IsDate l.finish
  pub minutes : IsMinutes l.minutes
  pub cost : Fits64 l.cost

pub record BaselineInRange (activities : ℕ) (l : List BaselineLine) : Type 0 where
  pub most : length l ≤ 1000
  pub lines : Every (BaselineLineInRange activities) l

pub record BudgetInRange (activities : ℕ) (b : Budget) : Type 0 where
  pub activity : Given (λ i. i < activities) b.activity
  pub original : Fits64 b.original
  pub most : length b.plan ≤ 120
  pub plan : Every Fits64 b.plan

pub record BudgetChangeInRange (activities : ℕ) (c : BudgetChange) : Type 0 where
  pub activity : Given (λ i. i < activities) c.activity
  pub amount : Fits64 c.amount

pub record PeriodRecordInRange (periods activities : ℕ) (r : PeriodRecord) : Type 0 where
  pub period : r.period < periods
  pub activity : r.activity < activities
  pub earned : Fits64 r.earned
  pub labor : Fits64 r.labor
  pub nonlabor : Fits64 r.nonlabor
  pub material : Fits64 r.material
  pub expense : Fits64 r.expense

-- ---- of the book

-- how many there are
pub record Limits (b : Book) : Type 0 where
  pub some_calendar : 1 ≤ length b.calendars
  pub calendars : length b.calendars ≤ 16
  pub activities : length b.activities ≤ 500
  pub resources : length b.resources ≤ 200
  pub assignments : length b.assignments ≤ 2000
  pub expenses : length b.expenses ≤ 1000
  pub budgets : length b.budgets ≤ 501
  pub log : length b.log ≤ 500
  pub funds : length b.funds ≤ 100
  pub periods : length b.periods ≤ 240
  pub records : length b.records ≤ 2000

pub record InRange (b : Book) : Type 0 where
  pub data_date : Given IsDate b.data_date
  pub technique : (share : ℤ) → b.technique ≡ Custom share → Fits64 share
  pub calendars : Every CalendarInRange b.calendars
  pub activities : Every (ActivityInRange (length b.calendars) (length b.activities)) b.activities
  pub resources : Every ResourceInRange b.resources
  pub assignments : Every (AssignmentInRange (length b.activities) (length b.resources)) b.assignments
  pub expenses : Every (ExpenseInRange (length b.activities)) b.expenses
  pub baseline : Given (BaselineInRange (length b.activities)) b.baseline
  pub budgets : Every (BudgetInRange (length b.activities)) b.budgets
  pub named : NoTwoAlike (map (λ (x : Budget). x.activity) b.budgets)
  pub log : Every (BudgetChangeInRange (length b.activities)) b.log
  pub funds : Every Fits64 b.funds
  pub periods : Every IsDate b.periods
  pub records : Every (PeriodRecordInRange (length b.periods) (length b.activities)) b.records
