-- A well-formed book keeps the limits and ranges.
use Rattle.std.specs.Prelude.{None, Option, Some}
use Prim.Native.Nat.{ℕ, zero, suc, ◌≤◌, ◌<◌}
use native.Mathlib.Nat.{not-suc-le-zero, le_of_suc-le-suc}
use native.Mathlib.Omega.{arith}
use mathlib.Core.Path.{◌≡◌, refl}
use mathlib.Core.Bool.{Bool, true, false}
use mathlib.Core.List.{List, [], ◌∷◌, map}
use lib.ListN.{length, get_or, length-map}
use lib.IntN.{ℤ}
use borrow.Author.Tests.{ltb-true, eq-eqb}
use Rattle.format.specs.declared.EvTechnique.{EvTechnique}
use Rattle.format.specs.declared.EvTechnique.TheVariants.{Custom}
use Rattle.format.specs.NumberLaws.{false_true}
use Rattle.format.specs.Signed.{sendable_fits}
use Rattle.format.specs.Inverse.{Range, Given, Each}
use Rattle.format.specs.Field.{range, S}
use Rattle.format.specs.Codec.{Codec, field, O, ◌then◌, ◌&◌, iso, test, when, marked, times, list, stay, up_to, counted}
use Rattle.format.specs.Enumeration.{technique_parts, technique}
use Rattle.format.specs.Book.{Exception, Calendar, Activity, Price, Resource, Assignment, Expense, BaselineLine, Budget, BudgetChange, PeriodRecord, Book}
use Rattle.format.specs.Format.{rising, days, exception, exceptions, calendar, activity, price, resource, assignment, expense, baseline_line, names, is_new, budget, budgets, budget_change, period_record, book}
use Rattle.format.specs.InRange.{IsDate, Fits64, Every, Rising, NoTwoAlike, Days, CalendarInRange, ActivityInRange, PriceInRange, ResourceInRange, AssignmentInRange, ExpenseInRange, BaselineLineInRange, BaselineInRange, BudgetInRange, BudgetChangeInRange, PeriodRecordInRange, Limits, InRange}

-- ---- fields and lists

date : (d : ℕ) → Range 10957 47482 d → IsDate d
date d h = record { first = h.least; last = le_of_suc-le-suc h.below }

pub each_given : {A : Type 0} {P Q : A → Type 0} → ((a : A) → P a → Q a) → (o : Option A) → Given P o → Given Q o
each_given f None h = tt
each_given f (Some a) h = f a h

below_given : (n : ℕ) (o : Option ℕ) → Given (Range 0 n) o → Given (λ (i : ℕ). i < n) o
below_given n = each_given (λ i h. h.below)

each_every : {A : Type 0} {P Q : A → Type 0} → ((a : A) → P a → Q a) → (l : List A) → Each (λ (x : Unit {0}). P) stay tt l → Every Q l
each_every f [] h k d l = absurd (not-suc-le-zero l)
each_every f (a ∷ as') h zero d l = f a h.0
each_every f (a ∷ as') h (suc k) d l = each_every f as' h.1 k d (le_of_suc-le-suc l)

-- a list led by its count
module _ {A : Type 0} (most : ℕ) (c : Codec A) (l : List A) (h : (up_to most c).ok l) where
  few : length l ≤ most
  unfolding up_to list iso ◌then◌ field range
  few = le_of_suc-le-suc h.0.below

  all : {Q : A → Type 0} → ((a : A) → c.ok a → Q a) → Every Q l
  unfolding up_to list iso ◌then◌ times
  all f = each_every f l h.1.1

-- ---- strictly rising days

-- each above the one before it, the first above x
unfoldable pub RisingFrom : ℕ → List ℕ → Type 0
RisingFrom x l = Each (λ (before : ℕ). (rising before).ok) (λ before day. day) x l

rising_date : (x d : ℕ) → (rising x).ok d → IsDate d
unfolding rising test field range
rising_date x d h = date d h.0

rising_above : (x d : ℕ) → (rising x).ok d → x < d
unfolding rising test
rising_above x d h = ltb-true x d h.1

rising_dates : (x : ℕ) (l : List ℕ) → RisingFrom x l → Every IsDate l
unfolding RisingFrom
rising_dates x [] h k d l = absurd (not-suc-le-zero l)
rising_dates x (a ∷ as') h zero d l = rising_date x a h.0
rising_dates x (a ∷ as') h (suc k) d l = rising_dates a as' h.1 k d (le_of_suc-le-suc l)

all_above : (x : ℕ) (l : List ℕ) → RisingFrom x l → (k : ℕ) → k < length l → x < get_or l k 0
unfolding RisingFrom
all_above x [] h k l = absurd (not-suc-le-zero l)
all_above x (a ∷ as') h zero l = rising_above x a h.0
all_above x (a ∷ as') h (suc k) l = omega (arith, rising_above x a h.0, all_above a as' h.1 k (le_of_suc-le-suc l))

rises : (x : ℕ) (l : List ℕ) → RisingFrom x l → Rising l
unfolding RisingFrom
rises x [] h j k m l = absurd (not-suc-le-zero l)
rises x (a ∷ as') h j zero m l = absurd (not-suc-le-zero m)
rises x (a ∷ as') h zero (suc k) m l = all_above a as' h.1 k (le_of_suc-le-suc l)
rises x (a ∷ as') h (suc j) (suc k) m l = rises a as' h.1 j k (le_of_suc-le-suc m) (le_of_suc-le-suc l)

days_in_range : (l : List ℕ) → days.ok l → Days l
unfolding days list iso ◌then◌ field range times RisingFrom
days_in_range l h = record { most = le_of_suc-le-suc h.0.below; dates = rising_dates 0 l h.1.1; rising = rises 0 l h.1.1 }

-- each exception, the first above x
abbrev pub ExceptionsFrom : ℕ → List Exception → Type 0
ExceptionsFrom x l = Each (λ (before : ℕ). (exception before).ok) (λ before e. e.day) x l

exception_days : (x : ℕ) (l : List Exception) → ExceptionsFrom x l → RisingFrom x (map (λ (e : Exception). e.day) l)
unfolding RisingFrom exception iso ◌&◌ ◌then◌
exception_days x [] h = tt
exception_days x (e ∷ es) h = (h.0.0, exception_days e.day es h.1)

exceptions_in_range : (l : List Exception) → exceptions.ok l → Days (map (λ (e : Exception). e.day) l)
unfolding exceptions list iso ◌then◌ field range times
exceptions_in_range l h =
    let r = exception_days 0 l h.1.1 in
    let n : length (map (λ (e : Exception). e.day) l) ≤ 366 = rw (length-map l (λ (e : Exception). e.day)) (le_of_suc-le-suc h.0.below) in
    record { most = n; dates = rising_dates 0 _ r; rising = rises 0 _ r }

-- ---- no two budgets alike

-- none of `before` is in l, and no two of l are alike
unfoldable pub NewFrom : List (Option ℕ) → List (Option ℕ) → Type 0
NewFrom before l = Each (λ (before : List (Option ℕ)) (a : Option ℕ). is_new before a ≡ true) (λ before a. a ∷ before) before l

names_itself : (a : Option ℕ) → names a a ≡ true
unfolding names
names_itself None = refl
names_itself (Some i) = eq-eqb i i refl

new_apart : (before : List (Option ℕ)) (a : Option ℕ) → is_new before a ≡ true → (i : ℕ) → i < length before → get_or before i None ≡ a → ⊥
unfolding is_new
new_apart [] a h i l e = not-suc-le-zero l
new_apart (b ∷ before) a h zero l e = false_true (rw (e, names_itself a) at h)
new_apart (b ∷ before) a h (suc i) l e = go (names b a) refl (λ k. new_apart before a k i (le_of_suc-le-suc l) e)
  where
    go : (x : Bool) → names b a ≡ x → (is_new before a ≡ true → ⊥) → ⊥
    go true q ih = false_true (rw q at h)
    go false q ih = ih (rw q at h)

new_outside :
    (before l : List (Option ℕ)) → NewFrom before l → (i k : ℕ) → i < length before → k < length l →
    get_or before i None ≡ get_or l k None → ⊥
unfolding NewFrom
new_outside before [] h i k m l e = not-suc-le-zero l
new_outside before (a ∷ as') h i zero m l e = new_apart before a h.0 i m e
new_outside before (a ∷ as') h i (suc k) m l e = new_outside (a ∷ before) as' h.1 (suc i) k (omega arith) (le_of_suc-le-suc l) e

new_distinct : (before l : List (Option ℕ)) → NewFrom before l → NoTwoAlike l
unfolding NewFrom
new_distinct before [] h j k m l e = not-suc-le-zero l
new_distinct before (a ∷ as') h j zero m l e = not-suc-le-zero m
new_distinct before (a ∷ as') h zero (suc k) m l e = new_outside (a ∷ before) as' h.1 0 k (omega arith) (le_of_suc-le-suc l) e
new_distinct before (a ∷ as') h (suc j) (suc k) m l e = new_distinct (a ∷ before) as' h.1 j k (le_of_suc-le-suc m) (le_of_suc-le-suc l) e

-- ---- records

calendar_in_range : (c : Calendar) → calendar.ok c → CalendarInRange c
unfolding calendar iso ◌&◌ ◌then◌ field range
calendar_in_range c (w, (r, (h, (x, e)))) =
    record {
      week = le_of_suc-le-suc w.below;
      holidays = days_in_range c.holidays h;
      extra_days = days_in_range c.extra_days x;
      exceptions = exceptions_in_range c.exceptions e;
    }

activity_in_range : (calendars activities : ℕ) (a : Activity) → (activity calendars activities).ok a → ActivityInRange calendars activities a
unfolding activity iso ◌&◌ ◌then◌ field O range S
activity_in_range calendars activities a (p, (c, (s, (es, (ef, (us, (uf, (w, (r, x))))))))) =
    record {
      parent = below_given activities a.parent p;
      calendar = below_given calendars a.calendar c;
      early_start = date a.early_start es;
      early_finish = date a.early_finish ef;
      actual_start = each_given date a.actual_start us;
      actual_finish = each_given date a.actual_finish uf;
      working_minutes = le_of_suc-le-suc w.below;
      remaining_minutes = le_of_suc-le-suc r.below;
      percent = each_given sendable_fits a.percent x;
    }

price_in_range : (p : Price) → price.ok p → PriceInRange p
unfolding price iso ◌&◌ ◌then◌ field O range S
price_in_range p (f, x) = record { from = each_given date p.from f; per_unit = sendable_fits p.per_unit x }

resource_in_range : (r : Resource) → resource.ok r → ResourceInRange r
unfolding resource iso ◌&◌ ◌then◌
resource_in_range r (k, p) = record { most = few 40 price r.prices p; prices = all 40 price r.prices p price_in_range }

assignment_in_range :
    (activities resources : ℕ) (a : Assignment) → (assignment activities resources).ok a → AssignmentInRange activities resources a
unfolding assignment iso ◌&◌ ◌then◌ field O range S
assignment_in_range activities resources a (i, (r, (x, (y, z)))) =
    record {
      activity = i.below;
      resource = below_given resources a.resource r;
      planned = sendable_fits a.planned x;
      actual = sendable_fits a.actual y;
      remaining = sendable_fits a.remaining z;
    }

expense_in_range : (activities : ℕ) (e : Expense) → (expense activities).ok e → ExpenseInRange activities e
unfolding expense iso ◌&◌ ◌then◌ field range S
expense_in_range activities e (i, (c, (x, (y, z)))) =
    record {
      activity = i.below;
      planned = sendable_fits e.planned x;
      actual = sendable_fits e.actual y;
      remaining = sendable_fits e.remaining z;
    }

line_in_range : (activities : ℕ) (l : BaselineLine) → (baseline_line activities).ok l → BaselineLineInRange activities l
unfolding baseline_line iso ◌&◌ ◌then◌ field range S
line_in_range activities l (i, (s, (f, (m, c)))) =
    record {
      activity = i.below;
      start = date l.start s;
      finish = date l.finish f;
      minutes = le_of_suc-le-suc m.below;
      cost = sendable_fits l.cost c;
    }

baseline_in_range :
    (activities : ℕ) (o : Option (List BaselineLine)) → (marked (up_to 1000 (baseline_line activities))).ok o →
    Given (BaselineInRange activities) o
unfolding marked iso ◌then◌ when
baseline_in_range activities None h = tt
baseline_in_range activities (Some l) h =
    let c = baseline_line activities in
    record { most = few 1000 c l h.1; lines = all 1000 c l h.1 (line_in_range activities) }

budget_in_range : (activities : ℕ) (before : List (Option ℕ)) (b : Budget) → (budget activities before).ok b → BudgetInRange activities b
unfolding budget iso ◌&◌ ◌then◌ test field O range S
budget_in_range activities before b (i, (o, p)) =
    record {
      activity = below_given activities b.activity i.0;
      original = sendable_fits b.original o;
      most = few 120 (field S) b.plan p;
      plan = all 120 (field S) b.plan p sendable_fits;
    }

-- each budget, where those of `before` are named already
abbrev pub BudgetsFrom : ℕ → List (Option ℕ) → List Budget → Type 0
BudgetsFrom activities before l = Each (λ (named : List (Option ℕ)). (budget activities named).ok) (λ named b. b.activity ∷ named) before l

each_budget :
    (activities : ℕ) (before : List (Option ℕ)) (l : List Budget) →
    BudgetsFrom activities before l → Every (BudgetInRange activities) l
each_budget activities before [] h k d l = absurd (not-suc-le-zero l)
each_budget activities before (b ∷ bs) h zero d l = budget_in_range activities before b h.0
each_budget activities before (b ∷ bs) h (suc k) d l = each_budget activities (b.activity ∷ before) bs h.1 k d (le_of_suc-le-suc l)

named_once :
    (activities : ℕ) (before : List (Option ℕ)) (l : List Budget) →
    BudgetsFrom activities before l → NewFrom before (map (λ (b : Budget). b.activity) l)
unfolding NewFrom budget iso ◌&◌ ◌then◌ test
named_once activities before [] h = tt
named_once activities before (b ∷ bs) h = (h.0.0.1, named_once activities (b.activity ∷ before) bs h.1)

change_in_range : (activities : ℕ) (c : BudgetChange) → (budget_change activities).ok c → BudgetChangeInRange activities c
unfolding budget_change iso ◌&◌ ◌then◌ field O range S
change_in_range activities c (i, (x, s)) =
    record { activity = below_given activities c.activity i; amount = sendable_fits c.amount x }

record_in_range :
    (periods activities : ℕ) (r : PeriodRecord) → (period_record periods activities).ok r → PeriodRecordInRange periods activities r
unfolding period_record iso ◌&◌ ◌then◌ field range S
record_in_range periods activities r (p, (i, (e, (l, (n, (m, x)))))) =
    record {
      period = p.below;
      activity = i.below;
      earned = sendable_fits r.earned e;
      labor = sendable_fits r.labor l;
      nonlabor = sendable_fits r.nonlabor n;
      material = sendable_fits r.material m;
      expense = sendable_fits r.expense x;
    }

-- ---- the book

share_fits : (t : EvTechnique) → technique.ok t → (share : ℤ) → t ≡ Custom share → Fits64 share
unfolding technique iso ◌then◌ when technique_parts field S
share_fits t h share e = sendable_fits share (rw e at h).1

pub fields_limits : (b : Book) → book.ok b → Limits b
unfolding book iso ◌&◌ ◌then◌ counted budgets list times field range
fields_limits b (_, (_, (_, (_, (cn, (_, (an, (_, (rn, (_, (xs, (es, (_, (bs, (cl, (fs, (pn, (_, ds)))))))))))))))))) =
    let activities = length b.activities in
    record {
      some_calendar = cn.least;
      calendars = le_of_suc-le-suc cn.below;
      activities = le_of_suc-le-suc an.below;
      resources = le_of_suc-le-suc rn.below;
      assignments = few 2000 (assignment activities (length b.resources)) b.assignments xs;
      expenses = few 1000 (expense activities) b.expenses es;
      budgets = le_of_suc-le-suc bs.0.below;
      log = few 500 (budget_change activities) b.log cl;
      funds = few 100 (field S) b.funds fs;
      periods = le_of_suc-le-suc pn.below;
      records = few 2000 (period_record (length b.periods) activities) b.records ds;
    }

pub fields_in_range : (b : Book) → book.ok b → InRange b
unfolding book iso ◌&◌ ◌then◌ O counted budgets list times field range S
fields_in_range b (_, (dd, (t, (_, (_, (cs, (_, (as', (_, (rs, (xs, (es, (bl, (bs, (cl, (fs, (_, (ps, ds)))))))))))))))))) =
    let calendars = length b.calendars in
    let activities = length b.activities in
    let resources = length b.resources in
    let periods = length b.periods in
    record {
      data_date = each_given date b.data_date dd;
      technique = share_fits b.technique t;
      calendars = each_every calendar_in_range b.calendars cs.1;
      activities = each_every (activity_in_range calendars activities) b.activities as'.1;
      resources = each_every resource_in_range b.resources rs.1;
      assignments = all 2000 (assignment activities resources) b.assignments xs (assignment_in_range activities resources);
      expenses = all 1000 (expense activities) b.expenses es (expense_in_range activities);
      baseline = baseline_in_range activities b.baseline bl;
      budgets = each_budget activities [] b.budgets bs.1.1;
      named = new_distinct [] _ (named_once activities [] b.budgets bs.1.1);
      log = all 500 (budget_change activities) b.log cl (change_in_range activities);
      funds = all 100 (field S) b.funds fs sendable_fits;
      periods = each_every date b.periods ps.1;
      records = all 2000 (period_record periods activities) b.records ds (record_in_range periods activities);
    }
