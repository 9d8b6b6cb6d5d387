-- From the lines of the baseline to the rows of the variances.
use Rattle.std.specs.Prelude.{None, Option, Some, unwrap_or, ℕ}
use Prim.Native.Nat.{ℕ, ◌+◌, ◌*◌, ◌/◌, ◌<◌}
use native.Mathlib.Omega.{arith}
use mathlib.Core.Path.{◌≡◌, refl, sym, ap, ◌∙◌, subst}
use mathlib.Core.Bool.{true, true≢false}
use mathlib.Core.List.{List, [], ◌∷◌, flat_map}
use lib.IntN.{ℤ}
use lib.ListN.{length, get_or, get_or-replicate, length-map}
use Rattle.format.specs.Inverse.{Given}
use Rattle.format.specs.InRange.{IsDate, IsMinutes, Every, CalendarInRange, BaselineLineInRange, InRange}
use Rattle.format.specs.Book.{Calendar, BaselineLine, Book}
use Rattle.format.specs.Format as layout
use Rattle.format.specs.Verdict.{content}
use Rattle.format.proofs.Theorems.{content_in_range}
use Rattle.sections.specs.declared.Section.{Section}
use Rattle.book.specs.declared.layout.Plan.{Plan}
use Rattle.sections.specs.Sections.{alike_in}
use Rattle.book.specs.Plan.{IsPlanOf}
use Rattle.book.proofs.Plan.{activities_count, alike_length}
use Rattle.money.proofs.Bits.{there_and_back}
use Rattle.model.specs.declared.Way.TheVariants.{Planned}
use Rattle.model.specs.Lookup.{no_activity}
use Rattle.model.specs.Calendar.{calendar_of}
use Rattle.model.specs.Tree.{parents, indices}
use Rattle.model.specs.Costs.{cost_of}
use Rattle.model.specs.Variances.{Variance, last_among, last_line, variance_from, variance_by, variance_of, variances}
use Rattle.lists.proofs.Spans.{span_in_lem, span_length}
use Rattle.flat.proofs.Tables.{flat_same, flat_map_map}
use Rattle.flat.proofs.Spans.{rows_length, rows_cells}
use Rattle.rows.specs.Rows.{numbers}
use Rattle.spans.specs.Columns.{calendar_number, first_date, last_date}
use Rattle.activities.specs.Schedule.{schedule_of, entry_at}
use Rattle.activities.proofs.Scheduling.{schedule_calendar, schedule_length, calendar_at_lem, first_at_lem, last_at_lem, working_at}
use Rattle.answers.specs.Rows.{variance_row, variances_rows}
use Rattle.answers.proofs.Sized.{Sized, sized}
use Rattle.baseline.specs.Lines.{line_row, lines_table, Zeros, IsLines}
use Rattle.baseline.proofs.Listing.{line_range}
use Rattle.model.proofs.Tree.{parents_count}
use Rattle.tree.specs.Figures.{figure_of}
use Rattle.tree.specs.Tables.{rolled_costs}
use Rattle.tree.proofs.Figured.{rolled_at}
use Rattle.variances.specs.Changed.{row_of, changed}
use Rattle.variances.specs.Days.{has_line, dated_by, Tables, all_rows, Dated}
use Rattle.variances.specs.Completion.{settled, Timed}
use Rattle.variances.proofs.Changing.{row_at, row_made, changed_made}

line_wide : (o : Option BaselineLine) → length (line_row o) ≡ 5
line_wide None = refl
line_wide (Some l) = refl

dated_wide : (cs : List Calendar) (schedule : List ℕ) (i : ℕ) (o : Option BaselineLine) → length (dated_by cs schedule i (line_row o)) ≡ 5
dated_wide cs schedule i None = refl
dated_wide cs schedule i (Some l) = refl

pub variance_wide : (o : Option Variance) → length (variance_row o) ≡ 5
unfolding variance_row
variance_wide None = refl
variance_wide (Some v) = refl

-- the rows are one for each activity
numbers_are : (b : Book) → numbers (variances_rows b) ≡ flat_map (λ i. variance_row (variance_by b i (last_line b i))) (indices (parents b))
unfolding numbers variances_rows variances variance_of
numbers_are b = flat_map_map (λ (row : List ℕ). row) variance_row (variances b) ∙ flat_map_map variance_row (variance_of b) (indices (parents b))

-- a line with days, then with minutes and costs, is the row of its variance
row_varies :
    (b : Book) (schedule : List ℕ) → schedule ≡ schedule_of b → (costs : List ℤ) → costs ≡ rolled_costs b → (i : ℕ) → i < length b.activities →
    (o : Option BaselineLine) → Given (BaselineLineInRange (length b.activities)) o → settled schedule costs i (dated_by b.calendars schedule i (line_row o)) ≡ variance_row (variance_by b i o)
unfolding variance_row variance_from calendar_of calendar_number first_date last_date
row_varies b schedule e costs c i k None g = refl
row_varies b schedule e costs c i k (Some l) g =
    let spent : figure_of costs (i * 3 + 1) ≡ (cost_of b i).actual = rolled_at b c i 1 k (omega arith) in
    let left : figure_of costs (i * 3 + 2) ≡ (cost_of b i).remaining = rolled_at b c i 2 k (omega arith) in
    rw (
      calendar_at_lem b e i k,
      first_at_lem b e Planned i k,
      last_at_lem b e Planned i k,
      working_at b e i k,
      there_and_back l.cost g.cost,
      spent,
      left,
    ) refl

module _ (b : Book) (schedule : List ℕ) (e : schedule ≡ schedule_of b) where
  -- a table of a row for each activity, beside the schedule
  module _ (row : ℕ → List ℕ) (wide : (i : ℕ) → length (row i) ≡ 5) {table : List ℕ} (f : table ≡ flat_map row (indices (parents b))) where
    table_long : length table ≡ length b.activities * 5
    table_long = ap length f ∙ rows_length 5 row wide (length (parents b)) ∙ ap (λ (n : ℕ). n * 5) (parents_count b)

    table_count : length table / 5 ≡ length b.activities
    table_count = omega (arith, table_long)

    tables_are : Tables schedule table
    tables_are = record { rows = omega (arith, table_long); scheduled = omega (arith, table_long, schedule_length b e) }

    row_is : (i : ℕ) → i < length b.activities → row_of 5 table i ≡ row i
    row_is i h = ap (λ (t : List ℕ). row_of 5 t i) f ∙ row_made 5 (length (parents b)) row wide i (omega (arith, parents_count b))

    cell_is : (i j : ℕ) → i < length b.activities → j < 5 → get_or table (i * 5 + j) 0 ≡ get_or (row i) j 0
    cell_is i j h l = sym (row_at 5 table i j l) ∙ ap (λ (r : List ℕ). get_or r j 0) (row_is i h)

    rows_changed : (g : ℕ → List ℕ → List ℕ) → all_rows g table ≡ flat_map (λ i. g i (row i)) (indices (parents b))
    rows_changed g =
        let n : length table / 5 ≡ length (parents b) = table_count ∙ sym (parents_count b) in
        ap (λ (m : ℕ). changed 5 g m table) n ∙ ap (changed 5 g (length (parents b))) f ∙ changed_made 5 (length (parents b)) row wide g

  module _ {lines : List ℕ} (f : lines ≡ lines_table true b) where
    made : lines ≡ flat_map (λ i. line_row (last_line b i)) (indices (parents b))
    unfolding lines_table
    made = f

    wide : (i : ℕ) → length (line_row (last_line b i)) ≡ 5
    wide i = line_wide (last_line b i)

    pub lines_tables : Tables schedule lines
    lines_tables = tables_are (λ i. line_row (last_line b i)) wide made

    module _ (r : InRange b) where
      -- by what holds of the line
      by_line_lem : (P : List ℕ → Type 0) → P (line_row None) → ((l : BaselineLine) → BaselineLineInRange (length b.activities) l → P (line_row (Some l))) → (i : ℕ) → P (line_row (last_line b i))
      by_line_lem P zeros given i = go (last_line b i) (line_range b r true i)
        where
          go : (o : Option BaselineLine) → Given (BaselineLineInRange (length b.activities)) o → P (line_row o)
          go None g = zeros
          go (Some l) g = given l g

      cell : (P : ℕ → Type 0) (i j : ℕ) → i < length lines / 5 → j < 5 → P (get_or (line_row (last_line b i)) j 0) → P (get_or lines (i * 5 + j) 0)
      cell P i j h l x =
          subst P (sym (cell_is (λ i. line_row (last_line b i)) wide made i j (omega (arith, table_count (λ i. line_row (last_line b i)) wide made)) l)) x

      pub lines_dated : Dated schedule lines
      unfolding first_date last_date
      lines_dated =
          record {
            early_starts = λ i h. let k = among i h in subst IsDate (sym (first_at_lem b e Planned i k)) (r.activities i no_activity k).early_start;
            early_finishes = λ i h. let k = among i h in subst IsDate (sym (last_at_lem b e Planned i k)) (r.activities i no_activity k).early_finish;
            starts = λ i h. cell (λ (d : ℕ). 0 < d → IsDate d) i 1 h (omega arith) (by_line_lem (λ row. 0 < get_or row 1 0 → IsDate (get_or row 1 0)) (λ k. absurd (omega arith)) (λ l g k. g.start) i);
            finishes = λ i h. cell (λ (d : ℕ). 0 < d → IsDate d) i 2 h (omega arith) (by_line_lem (λ row. 0 < get_or row 2 0 → IsDate (get_or row 2 0)) (λ k. absurd (omega arith)) (λ l g k. g.finish) i);
            lined = λ i h k.
                let same = row_is (λ i. line_row (last_line b i)) wide made i (among i h) in
                let both = by_line_lem (λ row. has_line row ≡ true → (0 < get_or row 1 0) × (0 < get_or row 2 0)) (λ q. absurd (true≢false (sym q)))
                (λ l g q. (omega (arith, g.start.first), omega (arith, g.finish.first))) i (ap has_line (sym same) ∙ k)
                in
                (cell (λ (d : ℕ). 0 < d) i 1 h (omega arith) both.0, cell (λ (d : ℕ). 0 < d) i 2 h (omega arith) both.1);
          }
        where
          among : (i : ℕ) → i < length lines / 5 → i < length b.activities
          among i h = omega (arith, table_count (λ i. line_row (last_line b i)) wide made)

      -- ---- with working days

      module _ {out : List ℕ} (g : out ≡ all_rows (dated_by b.calendars schedule) lines) where
        days_wide : (i : ℕ) → length (dated_by b.calendars schedule i (line_row (last_line b i))) ≡ 5
        days_wide i = dated_wide b.calendars schedule i (last_line b i)

        days_made : out ≡ flat_map (λ i. dated_by b.calendars schedule i (line_row (last_line b i))) (indices (parents b))
        days_made = g ∙ rows_changed (λ i. line_row (last_line b i)) wide made (dated_by b.calendars schedule)

        pub days_tables : Tables schedule out
        days_tables = tables_are (λ i. dated_by b.calendars schedule i (line_row (last_line b i))) days_wide days_made

        pub days_count : length out / 5 ≡ length b.activities
        days_count = table_count (λ i. dated_by b.calendars schedule i (line_row (last_line b i))) days_wide days_made

        pub days_timed : Timed schedule out
        days_timed =
            record {
              lines = λ i h.
                  let l : i < length b.activities = omega (arith, days_count) in
                  subst IsMinutes (sym (cell_is (λ i. dated_by b.calendars schedule i (line_row (last_line b i))) days_wide days_made i 3 l (omega arith)))
                  (by_line_lem (λ row. IsMinutes (get_or (dated_by b.calendars schedule i row) 3 0)) (omega arith) (λ l g. g.minutes) i);
              working = λ i h.
                  let l : i < length b.activities = omega (arith, days_count) in
                  subst IsMinutes (sym (working_at b e i l)) (r.activities i no_activity l).working_minutes;
            }

        -- ---- with minutes and costs

        pub rows_are : {costs : List ℤ} → costs ≡ rolled_costs b → {after : List ℕ} → after ≡ all_rows (settled schedule costs) out → after ≡ numbers (variances_rows b)
        rows_are {costs} c h =
            h
            ∙ rows_changed (λ i. dated_by b.calendars schedule i (line_row (last_line b i))) days_wide days_made (settled schedule costs)
            ∙ flat_same (λ i. settled schedule costs i (dated_by b.calendars schedule i (line_row (last_line b i)))) (λ i. variance_row (variance_by b i (last_line b i))) (indices (parents b))
            (λ i m. row_varies b schedule e costs c i (omega (arith, span_in_lem 0 (length (parents b)) i m, parents_count b)) (last_line b i) (line_range b r true i))
            ∙ sym (numbers_are b)

-- ---- without a line

no_line : (ls : List BaselineLine) → length ls ≡ 0 → (i : ℕ) → last_among ls i ≡ None
unfolding last_among
no_line [] h i = refl
no_line (l ∷ ls) h i = absurd (omega arith)

module _ {s : List ℕ} {list : Section} {n : ℕ} (w : IsLines s list n) (empty : list.count ≡ 0) where
  pub rows_blank : {out : List ℕ} → length out ≡ n * 5 → Zeros out → out ≡ numbers (variances_rows (content s))
  unfolding variance_row last_line
  rows_blank {out} l z =
      let b = content s in
      rows_cells 5 (λ i. variance_row (variance_by b i (last_line b i))) (λ i. variance_wide (variance_by b i (last_line b i))) (length (parents b)) 0 out (l ∙ ap (λ (m : ℕ). m * 5) (sym w.counted))
      (λ i j h k. z (i * 5 + j) ∙ sym (ap (λ (o : Option BaselineLine). get_or (variance_row (variance_by b i o)) j 0) (no_line (unwrap_or b.baseline []) none_listed i) ∙ get_or-replicate 5 j 0 0 k))
      ∙ sym (numbers_are b)
    where
      none_listed : length (unwrap_or (content s).baseline []) ≡ 0
      none_listed = ap length w.listed ∙ alike_length (layout.baseline_line n) s list ∙ empty

-- ---- of an accepted book

module _ {s : List ℕ} {date : Option ℕ} {plan : Plan} (p : IsPlanOf s date plan) where
  pub calendars_ranged : Every CalendarInRange (alike_in layout.calendar s plan.calendars)
  calendars_ranged = subst (Every CalendarInRange) p.calendars.listed (content_in_range s p.accepted).calendars

  module _ {schedule : List ℕ} (e : schedule ≡ schedule_of (content s)) where
    pub lines_named : {lines : List ℕ} → lines ≡ lines_table true (content s) → (i : ℕ) → i < length lines / 5 → entry_at schedule i 1 < plan.calendars.count
    unfolding lines_table
    lines_named {lines} f i h =
        let b = content s in
        schedule_calendar p e i (omega (arith, table_count b schedule e (λ i. line_row (last_line b i)) (λ i. line_wide (last_line b i)) f, activities_count p))

    pub days_are : {lines out : List ℕ} → lines ≡ lines_table true (content s) → out ≡ all_rows (dated_by (alike_in layout.calendar s plan.calendars) schedule) lines →
        out ≡ all_rows (dated_by (content s).calendars schedule) (lines_table true (content s))
    days_are {lines} f g =
        g ∙ ap (λ (cs : List Calendar). all_rows (dated_by cs schedule) lines) (sym p.calendars.listed) ∙ ap (all_rows (dated_by (content s).calendars schedule)) f

  pub rows_sized : Sized (variances_rows (content s)) plan.activities.count 5
  unfolding variances_rows variances
  rows_sized =
      let b = content s in
      sized variance_row 5 variance_wide (variances b) plan.activities.count
      (length-map (indices (parents b)) (variance_of b) ∙ span_length 0 (length (parents b)) ∙ parents_count b ∙ activities_count p)
