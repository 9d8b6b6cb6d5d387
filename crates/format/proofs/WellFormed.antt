-- A book that keeps the limits and ranges is well-formed: they say all that the format asks of its fields.
use Rattle.std.specs.Prelude.{None, Option, Some}
use Prim.Native.Nat.{ℕ, zero, suc, ◌≤◌, ◌<◌, suc-le-suc}
use native.Mathlib.Nat.{not-suc-le-zero, le_of_suc-le-suc}
use native.Mathlib.Omega.{arith}
use mathlib.Core.Path.{◌≡◌, refl, ap}
use mathlib.Core.Bool.{Bool, true, false, cond}
use mathlib.Core.List.{List, [], ◌∷◌, map}
use lib.ListN.{length, get_or, length-map}
use lib.IntN.{ℤ}
use borrow.Author.Tests.{lt-ltb, eqb-true}
use Rattle.format.specs.declared.Status.{Status}
use Rattle.format.specs.declared.Status.TheVariants.{NotStarted, InProgress, Completed}
use Rattle.format.specs.declared.EvTechnique.{EvTechnique}
use Rattle.format.specs.declared.EvTechnique.TheVariants.{Physical, Duration, Units, ZeroHundred, FiftyFifty, Custom}
use Rattle.format.specs.declared.EtcTechnique.{EtcTechnique}
use Rattle.format.specs.declared.EtcTechnique.TheVariants.{Remaining, Planned, Cpi, CpiSpi}
use Rattle.format.specs.declared.ResourceKind.{ResourceKind}
use Rattle.format.specs.declared.ResourceKind.TheVariants.{Labor, Nonlabor, Material}
use Rattle.format.specs.declared.Accrual.{Accrual}
use Rattle.format.specs.declared.Accrual.TheVariants.{Start, End, Uniform}
use Rattle.format.specs.declared.ChangeStatus.{ChangeStatus}
use Rattle.format.specs.declared.ChangeStatus.TheVariants.{Pending, Approved, NotApproved}
use Rattle.format.specs.declared.Region.{Region}
use Rattle.format.specs.declared.Region.TheVariants as regions
use Rattle.format.specs.NumberLaws.{false_true}
use Rattle.format.specs.Signed.{fits_sendable}
use Rattle.format.specs.Inverse.{Range, Given, Each}
use Rattle.format.specs.Field.{range, S}
use Rattle.format.specs.Codec.{Codec, field, O, ◌then◌, ◌&◌, ◌and◌, iso, test, when, marked, times, list, stay, up_to, counted}
use Rattle.format.specs.Enumeration.{enumeration, status_number, status, forecast_number, forecast, resource_kind_number, resource_kind, accrual_number, accrual, change_status_number, change_status, region_number, region, working_number, working, technique_parts, technique}
use Rattle.format.specs.Book.{Exception, Calendar, Activity, Price, Resource, Assignment, Expense, BaselineLine, Budget, BudgetChange, PeriodRecord, Book}
use Rattle.format.specs.Format.{rising, days, exception, exceptions, calendar, activity, price, resource, assignment, expense, baseline_line, names, is_new, budget, budgets, budget_change, period_record, book}
use Rattle.format.specs.InRange.{IsDate, Fits64, IsMinutes, Every, Rising, NoTwoAlike, Days, CalendarInRange, ActivityInRange, PriceInRange, ResourceInRange, AssignmentInRange, ExpenseInRange, BaselineLineInRange, BaselineInRange, BudgetInRange, BudgetChangeInRange, PeriodRecordInRange, Limits, InRange}
use Rattle.format.proofs.InRange.{each_given, RisingFrom, ExceptionsFrom, NewFrom, BudgetsFrom}

-- ---- fields

date_ok : (d : ℕ) → IsDate d → Range 10957 47482 d
date_ok d h = record { least = h.first; below = suc-le-suc h.last; fits = omega (arith, h.last) }

minutes_ok : (m : ℕ) → IsMinutes m → Range 0 1000000001 m
minutes_ok m h = record { least = omega arith; below = suc-le-suc h; fits = omega arith }

-- an index below a count that is itself small
index_ok : (n : ℕ) → n ≤ 500 → (i : ℕ) → i < n → Range 0 n i
index_ok n l i h = record { least = omega arith; below = h; fits = omega arith }

status_ok : (a : Status) → status.ok a
unfolding status status_number enumeration iso field range
status_ok NotStarted = omega arith
status_ok InProgress = omega arith
status_ok Completed = omega arith

forecast_ok : (a : EtcTechnique) → forecast.ok a
unfolding forecast forecast_number enumeration iso field range
forecast_ok Remaining = omega arith
forecast_ok Planned = omega arith
forecast_ok Cpi = omega arith
forecast_ok CpiSpi = omega arith

resource_kind_ok : (a : ResourceKind) → resource_kind.ok a
unfolding resource_kind resource_kind_number enumeration iso field range
resource_kind_ok Labor = omega arith
resource_kind_ok Nonlabor = omega arith
resource_kind_ok Material = omega arith

accrual_ok : (a : Accrual) → accrual.ok a
unfolding accrual accrual_number enumeration iso field range
accrual_ok Start = omega arith
accrual_ok End = omega arith
accrual_ok Uniform = omega arith

change_status_ok : (a : ChangeStatus) → change_status.ok a
unfolding change_status change_status_number enumeration iso field range
change_status_ok Pending = omega arith
change_status_ok Approved = omega arith
change_status_ok NotApproved = omega arith

region_ok : (a : Region) → region.ok a
unfolding region region_number enumeration iso field range
region_ok regions.None = omega arith
region_ok regions.Brazil = omega arith

working_ok : (a : Bool) → working.ok a
unfolding working working_number enumeration iso field range
working_ok false = omega arith
working_ok true = omega arith

technique_ok : (t : EvTechnique) → ((share : ℤ) → t ≡ Custom share → Fits64 share) → technique.ok t
unfolding technique technique_parts iso ◌then◌ when field range S
technique_ok Physical h = (omega arith, tt)
technique_ok Duration h = (omega arith, tt)
technique_ok Units h = (omega arith, tt)
technique_ok ZeroHundred h = (omega arith, tt)
technique_ok FiftyFifty h = (omega arith, tt)
technique_ok (Custom share) h = (omega arith, fits_sendable share (h share refl))

-- ---- lists

every_each : {A : Type 0} {P Q : A → Type 0} → ((a : A) → P a → Q a) → (l : List A) → Every P l → Each (λ (x : Unit {0}). Q) stay tt l
every_each f [] h = tt
every_each f (a ∷ as') h = (f a (h 0 a (omega arith)), every_each f as' (λ k d l. h (suc k) d (suc-le-suc l)))

-- a count that is itself small
count_ok : (low most n : ℕ) → most ≤ 2000 → low ≤ n → n ≤ most → Range low (suc most) n
count_ok low most n s l h = record { least = l; below = suc-le-suc h; fits = omega arith }

up_to_ok :
    {A : Type 0} {P : A → Type 0} (most : ℕ) → most ≤ 2000 → (c : Codec A) → ((a : A) → P a → c.ok a) →
    (l : List A) → length l ≤ most → Every P l → (up_to most c).ok l
unfolding up_to list iso ◌then◌ times field range
up_to_ok most s c f l h e = (count_ok 0 most (length l) s (omega arith) h, (refl, every_each f l e))

-- ---- strictly rising days

rising_from : (x : ℕ) (l : List ℕ) → Every IsDate l → Rising l → (0 < length l → x < get_or l 0 0) → RisingFrom x l
unfolding RisingFrom rising test field range
rising_from x [] h r a = tt
rising_from x (d ∷ ds) h r a =
    let i = h 0 d (omega arith) in
    let dates : Every IsDate ds = λ k e l. h (suc k) e (suc-le-suc l) in
    let rises : Rising ds = λ j k m l. r (suc j) (suc k) (suc-le-suc m) (suc-le-suc l) in
    ((date_ok d i, lt-ltb x d (a (omega arith))), rising_from d ds dates rises (λ l. r 0 1 (omega arith) (suc-le-suc l)))

days_from : (l : List ℕ) → Days l → RisingFrom 0 l
days_from l h = rising_from 0 l h.dates h.rising (λ k. omega (arith, (h.dates 0 0 k).first))

days_ok : (l : List ℕ) → Days l → days.ok l
unfolding days list iso ◌then◌ times field range RisingFrom
days_ok l h = (count_ok 0 366 (length l) (omega arith) (omega arith) h.most, (refl, days_from l h))

exceptions_from : (x : ℕ) (l : List Exception) → RisingFrom x (map (λ (e : Exception). e.day) l) → ExceptionsFrom x l
unfolding RisingFrom exception iso ◌&◌ ◌then◌
exceptions_from x [] h = tt
exceptions_from x (e ∷ es) h = ((h.0, working_ok e.working), exceptions_from e.day es h.1)

exceptions_ok : (l : List Exception) → Days (map (λ (e : Exception). e.day) l) → exceptions.ok l
unfolding exceptions list iso ◌then◌ times field range
exceptions_ok l h =
    let n : length l ≤ 366 = rw (length-map l (λ (e : Exception). e.day)) at h.most in
    (count_ok 0 366 (length l) (omega arith) (omega arith) n, (refl, exceptions_from 0 l (days_from (map (λ (e : Exception). e.day) l) h)))

-- ---- no two budgets alike

names_same : (a b : Option ℕ) → names a b ≡ true → a ≡ b
unfolding names
names_same None None h = refl
names_same None (Some b) h = false_true h
names_same (Some a) None h = false_true h
names_same (Some a) (Some b) h = ap Some (eqb-true a b h)

is_new_lem : (before : List (Option ℕ)) (a : Option ℕ) → ((i : ℕ) → i < length before → get_or before i None ≡ a → ⊥) → is_new before a ≡ true
unfolding is_new
is_new_lem [] a h = refl
is_new_lem (b ∷ before) a h = go (names b a) refl (is_new_lem before a (λ i l. h (suc i) (suc-le-suc l)))
  where
    go : (x : Bool) → names b a ≡ x → is_new before a ≡ true → cond x false (is_new before a) ≡ true
    go true e ih = absurd (h 0 (omega arith) (names_same b a e))
    go false e ih = ih

new_from :
    (before l : List (Option ℕ)) → ((i k : ℕ) → i < length before → k < length l → get_or before i None ≡ get_or l k None → ⊥) →
    NoTwoAlike l → NewFrom before l
unfolding NewFrom
new_from before [] o h = tt
new_from before (a ∷ as') o h =
    let first = is_new_lem before a (λ i l. o i 0 l (omega arith)) in
    (first, new_from (a ∷ before) as' outside (λ j k m l. h (suc j) (suc k) (suc-le-suc m) (suc-le-suc l)))
  where
    outside : (i k : ℕ) → i < suc (length before) → k < length as' → get_or (a ∷ before) i None ≡ get_or as' k None → ⊥
    outside zero k m l e = h 0 (suc k) (omega arith) (suc-le-suc l) e
    outside (suc i) k m l e = o i (suc k) (le_of_suc-le-suc m) (suc-le-suc l) e

-- ---- records

calendar_ok : (c : Calendar) → CalendarInRange c → calendar.ok c
unfolding calendar iso ◌&◌ ◌then◌ field range
calendar_ok c h =
    let w : Range 0 128 c.week = record { least = omega arith; below = suc-le-suc h.week; fits = omega (arith, h.week) } in
    w
    and region_ok c.region
    and days_ok c.holidays h.holidays
    and days_ok c.extra_days h.extra_days
    and exceptions_ok c.exceptions h.exceptions

activity_ok :
    (calendars activities : ℕ) → calendars ≤ 500 → activities ≤ 500 → (a : Activity) → ActivityInRange calendars activities a →
    (activity calendars activities).ok a
unfolding activity iso ◌&◌ ◌then◌ field O range S
activity_ok calendars activities c n a h =
    each_given (index_ok activities n) a.parent h.parent
    and each_given (index_ok calendars c) a.calendar h.calendar
    and status_ok a.status
    and date_ok a.early_start h.early_start
    and date_ok a.early_finish h.early_finish
    and each_given date_ok a.actual_start h.actual_start
    and each_given date_ok a.actual_finish h.actual_finish
    and minutes_ok a.working_minutes h.working_minutes
    and minutes_ok a.remaining_minutes h.remaining_minutes
    and each_given fits_sendable a.percent h.percent

assignment_ok :
    (activities resources : ℕ) → activities ≤ 500 → resources ≤ 500 → (a : Assignment) → AssignmentInRange activities resources a →
    (assignment activities resources).ok a
unfolding assignment iso ◌&◌ ◌then◌ field O range S
assignment_ok activities resources n r a h =
    index_ok activities n a.activity h.activity
    and each_given (index_ok resources r) a.resource h.resource
    and fits_sendable a.planned h.planned
    and fits_sendable a.actual h.actual
    and fits_sendable a.remaining h.remaining

record_ok :
    (periods activities : ℕ) → periods ≤ 500 → activities ≤ 500 → (r : PeriodRecord) → PeriodRecordInRange periods activities r →
    (period_record periods activities).ok r
unfolding period_record iso ◌&◌ ◌then◌ field range S
record_ok periods activities p n r h =
    index_ok periods p r.period h.period
    and index_ok activities n r.activity h.activity
    and fits_sendable r.earned h.earned
    and fits_sendable r.labor h.labor
    and fits_sendable r.nonlabor h.nonlabor
    and fits_sendable r.material h.material
    and fits_sendable r.expense h.expense

module _ (activities : ℕ) (n : activities ≤ 500) where
  expense_ok : (e : Expense) → ExpenseInRange activities e → (expense activities).ok e
  unfolding expense iso ◌&◌ ◌then◌ field range S
  expense_ok e h =
      index_ok activities n e.activity h.activity
      and accrual_ok e.accrual
      and fits_sendable e.planned h.planned
      and fits_sendable e.actual h.actual
      and fits_sendable e.remaining h.remaining

  line_ok : (l : BaselineLine) → BaselineLineInRange activities l → (baseline_line activities).ok l
  unfolding baseline_line iso ◌&◌ ◌then◌ field range S
  line_ok l h =
      index_ok activities n l.activity h.activity
      and date_ok l.start h.start
      and date_ok l.finish h.finish
      and minutes_ok l.minutes h.minutes
      and fits_sendable l.cost h.cost

  baseline_ok : (o : Option (List BaselineLine)) → Given (BaselineInRange activities) o → (marked (up_to 1000 (baseline_line activities))).ok o
  unfolding marked iso ◌then◌ when field range
  baseline_ok None h = (omega arith, tt)
  baseline_ok (Some l) h = (omega arith, up_to_ok 1000 (omega arith) (baseline_line activities) line_ok l h.most h.lines)

  budgets_from_lem :
      (before : List (Option ℕ)) (l : List Budget) → Every (BudgetInRange activities) l →
      NewFrom before (map (λ (b : Budget). b.activity) l) →
      BudgetsFrom activities before l
  unfolding NewFrom budget iso ◌&◌ ◌then◌ test field O range S
  budgets_from_lem before [] h new = tt
  budgets_from_lem before (b ∷ bs) h new =
      let i = h 0 b (omega arith) in
      let plan = up_to_ok 120 (omega arith) (field S) fits_sendable b.plan i.most i.plan in
      let activity = each_given (index_ok activities n) b.activity i.activity in
      let rest = budgets_from_lem (b.activity ∷ before) bs (λ k d l. h (suc k) d (suc-le-suc l)) new.1 in
      (((activity, new.0), (fits_sendable b.original i.original, plan)), rest)

  change_ok : (c : BudgetChange) → BudgetChangeInRange activities c → (budget_change activities).ok c
  unfolding budget_change iso ◌&◌ ◌then◌ field O range S
  change_ok c h =
      each_given (index_ok activities n) c.activity h.activity
      and fits_sendable c.amount h.amount
      and change_status_ok c.status

price_ok : (p : Price) → PriceInRange p → price.ok p
unfolding price iso ◌&◌ ◌then◌ field O range S
price_ok p h = (each_given date_ok p.from h.from, fits_sendable p.per_unit h.per_unit)

resource_ok : (r : Resource) → ResourceInRange r → resource.ok r
unfolding resource iso ◌&◌ ◌then◌
resource_ok r h = (resource_kind_ok r.kind, up_to_ok 40 (omega arith) price price_ok r.prices h.most h.prices)

-- ---- the book

pub fields_well_formed : (b : Book) → Limits b → InRange b → book.ok b
unfolding book iso ◌&◌ ◌then◌ O counted budgets list times field range S
fields_well_formed b n h =
    let c = length b.calendars in
    let a = length b.activities in
    let r = length b.resources in
    let p = length b.periods in
    let cs : c ≤ 500 = omega (arith, n.calendars) in
    let as' = n.activities in
    let rs : r ≤ 500 = omega (arith, n.resources) in
    let ps : p ≤ 500 = omega (arith, n.periods) in
    let new = new_from [] (map (λ (x : Budget). x.activity) b.budgets) (λ i k l. absurd (not-suc-le-zero l)) h.named in
    omega arith
    and each_given date_ok b.data_date h.data_date
    and technique_ok b.technique h.technique
    and forecast_ok b.forecast
    and count_ok 1 16 c (omega arith) n.some_calendar n.calendars
    and (refl and every_each calendar_ok b.calendars h.calendars)
    and count_ok 0 500 a (omega arith) (omega arith) as'
    and (refl and every_each (activity_ok c a cs as') b.activities h.activities)
    and count_ok 0 200 r (omega arith) (omega arith) n.resources
    and (refl and every_each resource_ok b.resources h.resources)
    and up_to_ok 2000 (omega arith) (assignment a r) (assignment_ok a r as' rs) b.assignments n.assignments h.assignments
    and up_to_ok 1000 (omega arith) (expense a) (expense_ok a as') b.expenses n.expenses h.expenses
    and baseline_ok a as' b.baseline h.baseline
    and (count_ok 0 501 (length b.budgets) (omega arith) (omega arith) n.budgets
    and refl and budgets_from_lem a as' [] b.budgets h.budgets new)
    and up_to_ok 500 (omega arith) (budget_change a) (change_ok a as') b.log n.log h.log
    and up_to_ok 100 (omega arith) (field S) fits_sendable b.funds n.funds h.funds
    and count_ok 0 240 p (omega arith) (omega arith) n.periods
    and (refl and every_each date_ok b.periods h.periods)
    and up_to_ok 2000 (omega arith) (period_record p a) (record_ok p a ps as') b.records n.records h.records
