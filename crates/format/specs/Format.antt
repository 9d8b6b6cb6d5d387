-- The format of the book, edition 1, in document 01's order: beside each line, its words.
use Rattle.std.specs.Prelude.{ℕ, ◌≡◌, refl, Bool, true, false, cond, List, [], ◌∷◌, eqb, ltb, ℤ, None, Option, Some}
use Rattle.std.proofs.Common.{arith, ap}
use Rattle.format.specs.Field.{range, U, S, D, index, minutes}
use Rattle.format.specs.Codec.{Codec, field, O, ◌then◌, ◌&◌, ◌and◌, iso, test, marked, list, up_to, counted}
use Rattle.format.specs.Enumeration.{status, technique, forecast, resource_kind, accrual, change_status, region, working}
use Rattle.format.specs.Book.{Exception, Calendar, Activity, Price, Resource, Assignment, Expense, BaselineLine, Budget, BudgetChange, PeriodRecord, Book}
use Rattle.format.specs.declared.Reason.TheVariants.{OutOfOrder}

-- S, in a field
abbrev pub amount : Codec ℤ
amount = field S

-- ---- calendars

-- strictly rising D: above the one before it, else refusal 6
unfoldable pub rising : ℕ → Codec ℕ
rising before = test 0 (λ day. ltb before day) OutOfOrder (field D)

-- holidays or extra days up to 366 with strictly rising D; the first is above 0, as every D is
unfoldable pub days : Codec (List ℕ)
days = list 366 rising (λ before day. day) 0

unfoldable pub exception : ℕ → Codec Exception
exception before =
    iso
    (rising before  -- strictly rising D
    & working)  -- an exception adds U 0 idle or 1 working
    (λ (d, w). record { day = d; working = w })
    (λ e. e.day and e.working)
    (λ e h. refl)
    (λ v h. refl)

-- exceptions up to 366 with strictly rising D
unfoldable pub exceptions : Codec (List Exception)
exceptions = list 366 exception (λ before e. e.day) 0

unfoldable pub calendar : Codec Calendar
calendar =
    iso
    (field (U 0 127)  -- week U 0..127 (bit 0 Monday)
    & region  -- region U (0 none, 1 Brazil)
    & days  -- holidays
    & days  -- extra days
    & exceptions)  -- exceptions
    (λ (w, (r, (h, (x, e)))). record { week = w; region = r; holidays = h; extra_days = x; exceptions = e })
    (λ c. c.week and c.region and c.holidays and c.extra_days and c.exceptions)
    (λ c h. refl)
    (λ v h. refl)

-- ---- activities and resources: an index is below the count that is given

unfoldable pub activity : ℕ → ℕ → Codec Activity
activity calendars activities =
    iso
    (O (index activities)  -- parent O index
    & O (index calendars)  -- calendar O index
    & status  -- status U 0..2 in `Status`'s order
    & field D  -- early start D
    & field D  -- early finish D
    & O D  -- actual start O D
    & O D  -- actual finish O D
    & field minutes  -- working minutes
    & field minutes  -- remaining minutes
    & O S)  -- percent O S (hundredths of a percent)
    (λ (p, (c, (s, (es, (ef, (us, (uf, (w, (r, x))))))))).
    record {
      parent = p;
      calendar = c;
      status = s;
      early_start = es;
      early_finish = ef;
      actual_start = us;
      actual_finish = uf;
      working_minutes = w;
      remaining_minutes = r;
      percent = x;
    })
    (λ a.
    a.parent and a.calendar and a.status and a.early_start and a.early_finish and a.actual_start and a.actual_finish
    and a.working_minutes and a.remaining_minutes and a.percent)
    (λ a h. refl)
    (λ v h. refl)

unfoldable pub price : Codec Price
price =
    iso
    (O D  -- prices of O D
    & amount)  -- and S
    (λ (f, p). record { from = f; per_unit = p })
    (λ p. p.from and p.per_unit)
    (λ p h. refl)
    (λ v h. refl)

unfoldable pub resource : Codec Resource
resource =
    iso
    (resource_kind  -- kind U 0..2 in `ResourceKind`'s order
    & up_to 40 price)  -- up to 40 prices
    (λ (k, p). record { kind = k; prices = p })
    (λ r. r.kind and r.prices)
    (λ r h. refl)
    (λ v h. refl)

unfoldable pub assignment : ℕ → ℕ → Codec Assignment
assignment activities resources =
    iso
    (field (index activities)  -- activity
    & O (index resources)  -- resource O index
    & amount  -- planned
    & amount  -- actual
    & amount)  -- remaining S
    (λ (a, (r, (x, (y, z)))). record { activity = a; resource = r; planned = x; actual = y; remaining = z })
    (λ a. a.activity and a.resource and a.planned and a.actual and a.remaining)
    (λ a h. refl)
    (λ v h. refl)

unfoldable pub expense : ℕ → Codec Expense
expense activities =
    iso
    (field (index activities)  -- activity
    & accrual  -- accrual U 0..2 in `Accrual`'s order
    & amount  -- planned
    & amount  -- actual
    & amount)  -- remaining S
    (λ (a, (c, (x, (y, z)))). record { activity = a; accrual = c; planned = x; actual = y; remaining = z })
    (λ e. e.activity and e.accrual and e.planned and e.actual and e.remaining)
    (λ e h. refl)
    (λ v h. refl)

-- ---- baseline, budgets, periods

unfoldable pub baseline_line : ℕ → Codec BaselineLine
baseline_line activities =
    iso
    (field (index activities)  -- activity
    & field D  -- start D
    & field D  -- finish D
    & field minutes  -- minutes
    & amount)  -- cost S
    (λ (a, (s, (f, (m, c)))). record { activity = a; start = s; finish = f; minutes = m; cost = c })
    (λ l. l.activity and l.start and l.finish and l.minutes and l.cost)
    (λ l h. refl)
    (λ v h. refl)

-- whether a names what b names
unfoldable pub names : Option ℕ → Option ℕ → Bool
names None None = true
names None (Some b) = false
names (Some a) None = false
names (Some a) (Some b) = eqb a b

-- whether none of `before` names what a names
unfoldable pub is_new : List (Option ℕ) → Option ℕ → Bool
is_new [] a = true
is_new (b ∷ before) a = cond (names b a) false (is_new before a)

unfoldable pub budget : ℕ → List (Option ℕ) → Codec Budget
budget activities before =
    iso
    (test None (is_new before) OutOfOrder (O (index activities))  -- activity O index (none is the project; no two alike, else refusal 6)
    & amount  -- original S
    & up_to 120 amount)  -- up to 120 plan amounts S
    (λ (a, (o, p)). record { activity = a; original = o; plan = p })
    (λ b. b.activity and b.original and b.plan)
    (λ b h. refl)
    (λ v h. refl)

-- budgets up to 501, each with what those before it name
unfoldable pub budgets : ℕ → Codec (List Budget)
budgets activities = list 501 (budget activities) (λ before b. b.activity ∷ before) []

unfoldable pub budget_change : ℕ → Codec BudgetChange
budget_change activities =
    iso
    (O (index activities)  -- activity O index
    & amount  -- amount S
    & change_status)  -- status U 0..2 in `ChangeStatus`'s order
    (λ (a, (x, s)). record { activity = a; amount = x; status = s })
    (λ c. c.activity and c.amount and c.status)
    (λ c h. refl)
    (λ v h. refl)

unfoldable pub period_record : ℕ → ℕ → Codec PeriodRecord
period_record periods activities =
    iso
    (field (index periods)  -- period
    & field (index activities)  -- activity
    & amount  -- then S earned
    & amount  -- labor
    & amount  -- nonlabor
    & amount  -- material
    & amount)  -- expense
    (λ (p, (a, (e, (l, (n, (m, x)))))). record { period = p; activity = a; earned = e; labor = l; nonlabor = n; material = m; expense = x })
    (λ r. r.period and r.activity and r.earned and r.labor and r.nonlabor and r.material and r.expense)
    (λ r h. refl)
    (λ v h. refl)

-- ---- the whole book

unfoldable pub book : Codec Book
unfolding ◌&◌ ◌then◌ field range
book =
    iso
    (field (U 1 1)  -- edition U, always 1
    & O D  -- data date O D
    & technique  -- technique U 0..5 in `EvTechnique`'s order, after 5 an S share
    & forecast  -- forecast U 0..3 in `EtcTechnique`'s order
    & counted 1 16 (λ n. calendar) (λ calendars.  -- calendars 1..16
    counted 0 500 (activity calendars) (λ activities.  -- activities up to 500
    counted 0 200 (λ n. resource) (λ resources.  -- resources up to 200
    up_to 2000 (assignment activities resources)  -- assignments up to 2,000
    & up_to 1000 (expense activities)  -- expenses up to 1,000
    & marked (up_to 1000 (baseline_line activities))  -- baseline U 0, or 1 then up to 1,000 lines
    & budgets activities  -- budgets up to 501
    & up_to 500 (budget_change activities)  -- log up to 500
    & up_to 100 amount  -- funds up to 100: S
    & counted 0 240 (λ n. field D) (λ periods.  -- periods up to 240: finish D
    up_to 2000 (period_record periods activities))))))  -- records up to 2,000
    (λ (edition, (dd, (t, (f, (cs, (as', (rs, (xs, (es, (bl, (bs, (cl, (fs, (ps, ds)))))))))))))).
    record {
      data_date = dd;
      technique = t;
      forecast = f;
      calendars = cs;
      activities = as';
      resources = rs;
      assignments = xs;
      expenses = es;
      baseline = bl;
      budgets = bs;
      log = cl;
      funds = fs;
      periods = ps;
      records = ds;
    })
    (λ b.
    1 and b.data_date and b.technique and b.forecast and b.calendars and b.activities and b.resources and b.assignments
    and b.expenses and b.baseline and b.budgets and b.log and b.funds and b.periods and b.records)
    (λ b h. refl)
    (λ v h. let z : 1 ≡ v.0 = omega (arith, h.0.least, h.0.below) in ap (λ n. (n, v.1)) z)
