-- What is asked of an accepted book: its tables are as laying and writing need them, and the rows are the curve's.
use Prim.Native.Nat.{ℕ, ◌+◌, ◌*◌, ◌≤◌, ◌<◌, min, max}
use mathlib.Core.Path.{◌≡◌, sym, ap, ap₂, ◌∙◌, subst}
use mathlib.Core.List.{List, [], map}
use native.Mathlib.Nat.{mul-le-mul_right}
use native.Mathlib.Omega.{arith}
use lib.IntN.{ℤ, pos}
use lib.ListN.{length}
use Rattle.format.specs.Format as layout
use Rattle.format.specs.InRange.{InRange, Limits}
use Rattle.format.specs.Verdict.{content}
use Rattle.format.proofs.Theorems.{content_limits, content_in_range}
use Rattle.sections.specs.Sections.{alike_in}
use Rattle.book.proofs.Plan.{placed_count}
use Rattle.lists.specs.Lists.{keep}
use Rattle.model.specs.Amounts.{Dated, is_between}
use Rattle.model.specs.Planned.{planned_by_day, running, planned_curve_between}
use Rattle.calendar.specs.Tables.{ShowsAll}
use Rattle.spans.specs.declared.Stretch.{Stretch}
use Rattle.answers.specs.Calls.{Puts}
use Rattle.answers.specs.Rows.{point_row}
use Rattle.laid.specs.Laid.{Laid}
use Rattle.bydate.specs.Sizes.{dates_of, FitsSmall, IsEmpty}
use Rattle.bydate.specs.Pointed.{points_in, Reaches}
use Rattle.bydate.proofs.Pointing.{points_laid}
use Rattle.laid.proofs.Laying.{laid_same}
use Rattle.bydate.proofs.Writing.{puts_same}
use Rattle.phased.specs.Columns.{ArePhased}
use Rattle.planned.specs.declared.Reach.{Reach}
use Rattle.planned.specs.Reached.{IsReach}
use Rattle.planned.proofs.Reaching.{reach_few}
use Rattle.curve.specs.declared.Asked.{Asked}
use Rattle.curve.specs.Budgeted.{budgets_laid}
use Rattle.curve.specs.Asking.{narrowed, IsAsked}
use Rattle.curve.proofs.Narrow.{curve_none, curve_narrow, curve_from}
use Rattle.curve.proofs.Planning.{planned_within, lists_planned}
use Rattle.answers.specs.Reply.{Reply}

module _ {s : List ℕ} {asked : Asked} {marks listed : List ℕ} {budgets : List ℤ} (a : IsAsked s asked marks listed budgets) where
  abbrev known : Stretch
  known = asked.reach.known

  asked_range : InRange (content s)
  asked_range = content_in_range s a.reached.accepted

  asked_limits : Limits (content s)
  asked_limits = content_limits s a.reached.accepted

  asked_phased : ArePhased (content s) marks listed budgets
  asked_phased = record { marked = a.marked; spanned = a.reached.spans; budgeted = a.reached.budgeted }

  -- ---- the tables

  module _ {days : List ℕ} (room : asked.reach.calendars.count * dates_of known ≤ length days) where
    pub asked_planned : ShowsAll (alike_in layout.calendar s asked.reach.calendars) known.from known.to days
        → {before after : List ℕ} → Laid known.from (budgets_laid known.from (dates_of known) days marks listed budgets) before after
        → Laid known.from (planned_by_day (content s)) before after
    asked_planned shown l =
        let calendars = a.reached.calendars in
        let shows : ShowsAll (content s).calendars known.from known.to days = rw calendars.listed shown in
        laid_same
        (lists_planned (content s) asked_phased asked_range a.reached.covers asked_limits.some_calendar asked_limits.calendars asked_limits.activities (rw (placed_count calendars) room) shows)
        l

  -- ---- tables by date

  pub full_dates : dates_of known ≤ 36525
  full_dates = omega (arith, a.reached.covers.least, a.reached.covers.most)

  -- the days of all calendars over at most n dates
  pub short_days : (n : ℕ) → dates_of known ≤ n → asked.reach.calendars.count * dates_of known ≤ 16 * n
  short_days n h = omega (arith, mul-le-mul_right (dates_of known) (reach_few a.reached))

  -- ---- the points

  module _ {before after : List ℕ} (w : IsEmpty (dates_of known) before) (l : Laid known.from (planned_by_day (content s)) before after) where
    -- the table has the dates that are asked
    pub asked_reach : Reaches known.from after asked.from asked.to
    asked_reach =
        record {
          start = a.begins;
          reach = omega (arith, a.begins, a.rises, a.ends, w.room, l.long);
          latest = omega (arith, a.ends, a.reached.covers.most);
        }

    all_reach : Reaches known.from after known.from asked.to
    all_reach = record { start = omega arith; reach = asked_reach.reach; latest = asked_reach.latest }

    -- what is laid onto it makes the rows
    pub asked_rows :
        {out end : List ℕ} {r : Reply} →
        Puts (map point_row (keep (is_between asked.from asked.to) (running (pos 0) (points_in known.from after known.from asked.to)))) out r end →
        Puts (map point_row (planned_curve_between (content s) asked.from asked.to)) out r end
    asked_rows p =
        let laid = subst (λ (t : List ℕ). Laid known.from (planned_by_day (content s)) t after) w.empty l in
        puts_same
        (ap (λ (xs : List Dated). keep (is_between asked.from asked.to) (running (pos 0) xs)) (points_laid (length before) laid all_reach)
        ∙ curve_from (content s) known.from known.to (planned_within (content s) asked_phased asked_range a.reached.covers) asked.from asked.to a.ends)
        p

-- ---- the dates between two, as far as the reach has them

module _ {s : List ℕ} {reach : Reach} {marks listed : List ℕ} {budgets : List ℤ} (r : IsReach s reach listed budgets) (w : ArePhased (content s) marks listed budgets)
    (between : Stretch) {asked : Asked} (e : asked ≡ narrowed reach between)
  where
    begin : asked.from ≡ max between.from reach.known.from
    begin = ap (λ (a : Asked). a.from) e

    end : asked.to ≡ min between.to reach.known.to
    end = ap (λ (a : Asked). a.to) e

    same : asked.reach ≡ reach
    same = ap (λ (a : Asked). a.reach) e

    narrowed_within : planned_curve_between (content s) asked.from asked.to ≡ planned_curve_between (content s) between.from between.to
    narrowed_within =
        let within = planned_within (content s) w (content_in_range s r.accepted) r.covers in
        ap₂ (planned_curve_between (content s)) begin end ∙ curve_narrow (content s) reach.known.from reach.known.to within between.from between.to

    -- what is asked, where the first date is not after the last
    pub narrowed_asked : asked.from ≤ asked.to → IsAsked s asked marks listed budgets
    narrowed_asked h =
        record {
          reached = subst (λ (k : Reach). IsReach s k listed budgets) (sym same) r;
          marked = w.marked;
          begins = omega (arith, begin, ap (λ (k : Reach). k.known.from) same);
          rises = h;
          ends = omega (arith, end, ap (λ (k : Reach). k.known.to) same);
        }

    -- by the reach alone
    pub narrowed_fits : FitsSmall reach.calendars.count reach.known → FitsSmall asked.reach.calendars.count asked.reach.known
    narrowed_fits f = subst (λ (k : Reach). FitsSmall k.calendars.count k.known) (sym same) f

    pub narrowed_short : (n : ℕ) → reach.known.to < reach.known.from + n → dates_of asked.reach.known ≤ n
    narrowed_short n h = let k : dates_of asked.reach.known ≡ dates_of reach.known = ap (λ (k : Reach). dates_of k.known) same in omega (arith, k)

    -- its rows are those between the dates that were given
    pub narrowed_rows :
        {out after : List ℕ} {r : Reply} → Puts (map point_row (planned_curve_between (content s) asked.from asked.to)) out r after →
        Puts (map point_row (planned_curve_between (content s) between.from between.to)) out r after
    narrowed_rows p = puts_same narrowed_within p

    -- and none where it is
    pub narrowed_nothing : asked.to < asked.from → planned_curve_between (content s) between.from between.to ≡ []
    narrowed_nothing h = sym narrowed_within ∙ curve_none (content s) asked.from asked.to h
