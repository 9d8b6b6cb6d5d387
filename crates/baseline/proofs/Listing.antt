-- The lines, the listed spans and the budgets of a book, as the tables hold them.
use Rattle.std.specs.Prelude.{None, Option, Some, unwrap_or, ℕ}
use Prim.Native.Nat.{ℕ, zero, suc, ◌+◌, ◌*◌, ◌≤◌, ◌<◌}
use native.Mathlib.Omega.{arith}
use native.Mathlib.Decide.{dec_lt}
use mathlib.Core.Path.{◌≡◌, refl, ap, ap₂, sym, ◌∙◌, subst, fun_ext}
use mathlib.Core.Bool.{Bool, true, false, cond}
use mathlib.Core.List.{List, [], ◌∷◌, map, flat_map}
use lib.Dec.{eqb}
use lib.IntN.{ℤ, pos}
use lib.ListN.{length, get_or, get_or-eq_default}
use lib.Seq.{sets}
use Rattle.format.specs.Inverse.{Given}
use Rattle.format.specs.InRange.{IsDate, Every, BaselineLineInRange, BaselineInRange, InRange}
use Rattle.format.specs.Book.{BaselineLine, Book}
use Rattle.format.specs.Format as layout
use Rattle.format.specs.Verdict.{content}
use Rattle.money.specs.declared.costs.Cost.{Cost}
use Rattle.money.specs.Words.{of_bits}
use Rattle.money.proofs.Bits.{there_and_back}
use Rattle.sections.specs.declared.Section.{Section}
use Rattle.book.specs.declared.layout.Plan.{Plan}
use Rattle.book.specs.declared.layout.Baseline.{Baseline}
use Rattle.sections.specs.Sections.{alike_in}
use Rattle.book.specs.Layout.{lines_of}
use Rattle.book.specs.Plan.{IsPlanOf, IsBaselineOf}
use Rattle.book.proofs.Plan.{activities_count, lines_in_range}
use Rattle.model.specs.declared.Way.TheVariants.{Planned}
use Rattle.model.proofs.Tree.{parents_count}
use Rattle.lists.specs.Lists.{span}
use Rattle.model.specs.Lookup.{no_activity, activity_at, calendar_at}
use Rattle.model.specs.Calendar.{calendar_of}
use Rattle.model.specs.Days.{day_list, planned_days}
use Rattle.model.specs.Tree.{parents, is_leaf}
use Rattle.model.specs.Costs.{own_cost, cost_of}
use Rattle.model.specs.Planned.{first_line, line_of, budget_by, budget_of, days_by, listed_days}
use Rattle.model.specs.Variances.{last_among, last_line}
use Rattle.lists.proofs.Spans.{span_in_lem, made_length, made_at}
use Rattle.lists.proofs.Lists.{map_same}
use Rattle.model.proofs.Costs.{leaf_cost}
use Rattle.flat.proofs.Tables.{flat_same}
use Rattle.tree.specs.Figures.{figure_of, MarksLeaves}
use Rattle.tree.specs.Tables.{own_costs}
use Rattle.tree.proofs.Figured.{own_cost_at}
use Rattle.flat.proofs.Spans.{rows_length, rows_at}
use Rattle.spans.specs.declared.Stretch.{Stretch}
use Rattle.spans.specs.Columns.{calendar_number, first_date, last_date, days_in}
use Rattle.activities.specs.Schedule.{schedule_of}
use Rattle.spans.specs.Stretches.{DatedSpans, CoversSpans}
use Rattle.spans.proofs.Days.{date_days}
use Rattle.activities.proofs.Scheduling.{calendar_at_lem, first_at_lem, last_at_lem}
use Rattle.baseline.specs.Lines.{line_by, line_row, lines_table, IsLines}
use Rattle.baseline.specs.Listed.{by_line, start_of, finish_of, listed_first, listed_last, listed_row, listed_of, first_at, last_at, number_at, if_leaf, of_leaf, budgets_of}
use Rattle.std.specs.Option.{option_or}

-- ---- lines in range

module _ (P : BaselineLine → Type 0) (i : ℕ) where
  first_holds : (ls : List BaselineLine) → Every P ls → Given P (first_line ls i)
  unfolding first_line
  first_holds [] h = tt
  first_holds (l ∷ ls) h = go (eqb l.activity i) (first_holds ls (λ k d q. h (suc k) d (omega arith)))
    where
      go : (b : Bool) → Given P (first_line ls i) → Given P (cond b (Some l) (first_line ls i))
      go true r = h zero l (omega arith)
      go false r = r

  last_holds : (ls : List BaselineLine) → Every P ls → Given P (last_among ls i)
  unfolding last_among
  last_holds [] h = tt
  last_holds (l ∷ ls) h = go (last_among ls i) (eqb l.activity i) (last_holds ls (λ k d q. h (suc k) d (omega arith)))
    where
      go : (o : Option BaselineLine) (b : Bool) → Given P o → Given P (option_or o (cond b (Some l) None))
      go (Some x) b r = r
      go None true r = h zero l (omega arith)
      go None false r = tt

among : (n : ℕ) (o : Option (List BaselineLine)) → Given (BaselineInRange n) o → Every (BaselineLineInRange n) (unwrap_or o [])
among n None h = λ k d l. absurd (omega arith)
among n (Some ls) h = h.lines

by_line_lem : {A : Type 0} (P : A → Type 0) (f : BaselineLine → A) (o : Option BaselineLine) (x : A) → Given (λ l. P (f l)) o → P x → P (by_line f o x)
by_line_lem P f None x h k = k
by_line_lem P f (Some l) x h k = h

-- ---- as the code makes the tables

-- number k of the line of activity i, else number p of the schedule
abbrev lined : List ℕ → List ℕ → ℕ → ℕ → ℕ → ℕ
lined schedule lines k p i = cond (eqb (get_or lines (i * 5) 0) 0) (get_or schedule (i * 13 + p) 0) (get_or lines (i * 5 + k) 0)

abbrev pub span_in : List ℕ → List ℕ → ℕ → List ℕ
span_in schedule lines i = lined schedule lines 1 2 i ∷ lined schedule lines 2 3 i ∷ get_or schedule (i * 13 + 1) 0 ∷ []

abbrev pub budget_in : List ℕ → List ℕ → List ℤ → ℕ → ℤ
budget_in marks lines costs i = if_leaf (get_or marks i 0) (cond (eqb (get_or lines (i * 5) 0) 0) (get_or costs (i * 3) (pos 0)) (of_bits (get_or lines (i * 5 + 4) 0)))

-- three numbers set one behind the other
pub three_set : (out : List ℕ) (at : ℕ) {x y a b : ℕ} (z : ℕ) → x ≡ a → y ≡ b → sets out at (x ∷ y ∷ z ∷ []) ≡ sets out at (a ∷ b ∷ z ∷ [])
three_set out at z e f = ap₂ (λ (x y : ℕ). sets out at (x ∷ y ∷ z ∷ [])) e f

-- ---- of any book

module _ (b : Book) where
  -- number j of the line of activity i
  pub lined_at : (last : Bool) {lines : List ℕ} → lines ≡ lines_table last b → (i j : ℕ) → i < length b.activities → j < 5 → get_or lines (i * 5 + j) 0 ≡ get_or (line_row (line_by last b i)) j 0
  unfolding lines_table
  lined_at last e i j h l =
      ap (λ (t : List ℕ). get_or t (i * 5 + j) 0) e
      ∙ rows_at 5 (λ k. line_row (line_by last b k)) (λ k. five (line_by last b k)) (length (parents b)) i j 0 (omega (arith, parents_count b)) l
    where
      five : (o : Option BaselineLine) → length (line_row o) ≡ 5
      five None = refl
      five (Some x) = refl

  pub line_marked : (last : Bool) {lines : List ℕ} → lines ≡ lines_table last b → (i : ℕ) → i < length b.activities → get_or lines (i * 5) 0 ≡ get_or (line_row (line_by last b i)) 0 0
  line_marked last {lines} e i h = let z : i * 5 ≡ i * 5 + 0 = omega arith in ap (λ (k : ℕ). get_or lines k 0) z ∙ lined_at last e i 0 h (omega arith)

  pub line_range : InRange b → (last : Bool) (i : ℕ) → Given (BaselineLineInRange (length b.activities)) (line_by last b i)
  unfolding line_of last_line
  line_range r true i = last_holds (BaselineLineInRange (length b.activities)) i (unwrap_or b.baseline []) (among (length b.activities) b.baseline r.baseline)
  line_range r false i = first_holds (BaselineLineInRange (length b.activities)) i (unwrap_or b.baseline []) (among (length b.activities) b.baseline r.baseline)

  -- ---- the table of the listed spans, from the schedule and the lines

  module _ {schedule lines : List ℕ} (e : schedule ≡ schedule_of b) (t : lines ≡ lines_table false b) where
    span_row : (i : ℕ) → i < length b.activities → span_in schedule lines i ≡ listed_row b i
    unfolding listed_row listed_first listed_last first_date last_date
    span_row i h =
        rw (line_marked false t i h, lined_at false t i 1 h (omega arith), lined_at false t i 2 h (omega arith), calendar_at_lem b e i h, first_at_lem b e Planned i h, last_at_lem b e Planned i h)
        (go (line_of b i))
      where
        go :
            (o : Option BaselineLine) → let a = activity_at b i in
            cond (eqb (get_or (line_row o) 0 0) 0) a.early_start (get_or (line_row o) 1 0) ∷ cond (eqb (get_or (line_row o) 0 0) 0) a.early_finish (get_or (line_row o) 2 0) ∷ calendar_number a ∷ []
            ≡ by_line start_of o a.early_start ∷ by_line finish_of o a.early_finish ∷ calendar_number a ∷ []
        go None = refl
        go (Some l) = refl

    pub spans_listed : (n : ℕ) → length b.activities ≡ n → flat_map (span_in schedule lines) (span 0 n) ≡ listed_of b
    unfolding listed_of
    spans_listed n c =
        flat_same (span_in schedule lines) (listed_row b) (span 0 n) (λ i m. let k = span_in_lem 0 n i m in span_row i (omega arith))
        ∙ ap (λ (k : ℕ). flat_map (listed_row b) (span 0 k)) (sym (parents_count b ∙ c))

  -- ---- the budgets, from the marks of the parents, the lines and the planned costs

  module _ (r : InRange b) (marks : List ℕ) {lines : List ℕ} {costs : List ℤ} (m : MarksLeaves marks (parents b)) (t : lines ≡ lines_table false b) (p : costs ≡ own_costs b) where
    -- the planned cost stands first
    first_cost : (i : ℕ) → i < length b.activities → figure_of costs (i * 3) ≡ (own_cost b i).budget
    first_cost i h = let z : i * 3 ≡ i * 3 + 0 = omega arith in ap (figure_of costs) z ∙ own_cost_at b p i 0 h (omega arith)

    budget_is : (i : ℕ) → i < length b.activities → budget_in marks lines costs i ≡ of_leaf b (budget_of b) i
    unfolding budget_of
    budget_is i h =
        rw (m i (omega (arith, parents_count b)), line_marked false t i h, lined_at false t i 4 h (omega arith), first_cost i h)
        (go (is_leaf (parents b) i) (leaf_cost b i) (line_of b i) (line_range r false i))
      where
        go :
            (leaf : Bool) → (leaf ≡ true → cost_of b i ≡ own_cost b i) → (o : Option BaselineLine) → Given (BaselineLineInRange (length b.activities)) o →
            cond leaf (cond (eqb (get_or (line_row o) 0 0) 0) (own_cost b i).budget (of_bits (get_or (line_row o) 4 0))) (pos 0) ≡ cond leaf (budget_by o (cost_of b i).budget) (pos 0)
        go false c o g = refl
        go true c None g = sym (ap (λ (x : Cost). x.budget) (c refl))
        go true c (Some l) g = there_and_back l.cost g.cost

    pub budgets_listed : (n : ℕ) → length b.activities ≡ n → map (budget_in marks lines costs) (span 0 n) ≡ budgets_of b
    unfolding budgets_of
    budgets_listed n c =
        map_same (budget_in marks lines costs) (of_leaf b (budget_of b)) (span 0 n) (λ i k. let l = span_in_lem 0 n i k in budget_is i (omega arith))
        ∙ ap (λ (k : ℕ). map (of_leaf b (budget_of b)) (span 0 k)) (sym (parents_count b ∙ c))

  -- ---- what the tables hold

  module _ {budgets : List ℤ} (e : budgets ≡ budgets_of b) where
    pub budgets_long_lem : length budgets ≡ length b.activities
    unfolding budgets_of
    budgets_long_lem = ap length e ∙ made_length (of_leaf b (budget_of b)) (length (parents b)) ∙ parents_count b

    pub budget_at_lem : (i : ℕ) → i < length b.activities → figure_of budgets i ≡ of_leaf b (budget_of b) i
    unfolding budgets_of
    budget_at_lem i h = ap (λ (t : List ℤ). figure_of t i) e ∙ made_at (of_leaf b (budget_of b)) (pos 0) (length (parents b)) i (omega (arith, parents_count b))

  module _ {listed : List ℕ} (e : listed ≡ listed_of b) where
    pub listed_long_lem : length listed ≡ length b.activities * 3
    unfolding listed_of listed_row
    listed_long_lem = ap length e ∙ rows_length 3 (listed_row b) (λ i. refl) (length (parents b)) ∙ ap (λ (k : ℕ). k * 3) (parents_count b)

    listed_at : (i j : ℕ) → i < length b.activities → j < 3 → get_or listed (i * 3 + j) 0 ≡ get_or (listed_row b i) j 0
    unfolding listed_of listed_row
    listed_at i j h l = ap (λ (t : List ℕ). get_or t (i * 3 + j) 0) e ∙ rows_at 3 (listed_row b) (λ k. refl) (length (parents b)) i j 0 (omega (arith, parents_count b)) l

    pub listed_first_lem : (i : ℕ) → i < length b.activities → first_at listed i ≡ listed_first b i
    unfolding listed_row
    listed_first_lem i h = let z : i * 3 ≡ i * 3 + 0 = omega arith in ap (λ (k : ℕ). get_or listed k 0) z ∙ listed_at i 0 h (omega arith)

    pub listed_last_lem : (i : ℕ) → i < length b.activities → last_at listed i ≡ listed_last b i
    unfolding listed_row
    listed_last_lem i h = listed_at i 1 h (omega arith)

    pub listed_number : (i : ℕ) → i < length b.activities → number_at listed i ≡ calendar_number (activity_at b i)
    unfolding listed_row
    listed_number i h = listed_at i 2 h (omega arith)

    -- the days between a row's dates, under its calendar
    pub listed_list : (i : ℕ) → i < length b.activities → listed_days b i ≡ day_list (calendar_at b (number_at listed i)) (first_at listed i) (last_at listed i)
    unfolding listed_days days_by planned_days listed_first listed_last calendar_of calendar_number
    listed_list i h = rw (listed_number i h, listed_first_lem i h, listed_last_lem i h) (go (line_of b i))
      where
        go : (o : Option BaselineLine) → let a = activity_at b i in days_by b i o ≡ day_list (calendar_of b a) (by_line start_of o a.early_start) (by_line finish_of o a.early_finish)
        go None = refl
        go (Some l) = refl

    -- ---- in a book whose numbers are in range

    module _ (r : InRange b) where
      first_range : (i : ℕ) → i < length b.activities → IsDate (listed_first b i)
      unfolding listed_first
      first_range i h = by_line_lem IsDate start_of (line_of b i) (activity_at b i).early_start (go (line_of b i) (line_range r false i)) (r.activities i no_activity h).early_start
        where
          go : (o : Option BaselineLine) → Given (BaselineLineInRange (length b.activities)) o → Given (λ (l : BaselineLine). IsDate l.start) o
          go None k = tt
          go (Some l) k = k.start

      last_range : (i : ℕ) → i < length b.activities → IsDate (listed_last b i)
      unfolding listed_last
      last_range i h = by_line_lem IsDate finish_of (line_of b i) (activity_at b i).early_finish (go (line_of b i) (line_range r false i)) (r.activities i no_activity h).early_finish
        where
          go : (o : Option BaselineLine) → Given (BaselineLineInRange (length b.activities)) o → Given (λ (l : BaselineLine). IsDate l.finish) o
          go None k = tt
          go (Some l) k = k.finish

      pub listed_date : (i : ℕ) → i < length b.activities → IsDate (first_at listed i)
      listed_date i h = subst IsDate (sym (listed_first_lem i h)) (first_range i h)

      pub listed_named : 1 ≤ length b.calendars → (i : ℕ) → i < length b.activities → number_at listed i < length b.calendars
      unfolding calendar_number
      listed_named least i h = rw (listed_number i h) (go (activity_at b i).calendar (r.activities i no_activity h).calendar)
        where
          go : (o : Option ℕ) → Given (λ (k : ℕ). k < length b.calendars) o → unwrap_or o 0 < length b.calendars
          go None g = least
          go (Some k) g = g

      pub listed_days_lem : (i : ℕ) → i < length b.activities → listed_days b i ≡ days_in (calendar_at b (number_at listed i)) (first_at listed i) (last_at listed i)
      listed_days_lem i h = listed_list i h ∙ date_days (calendar_at b (number_at listed i)) (first_at listed i) (last_at listed i) (listed_date i h)

      -- the spans are of the book's dates
      pub listed_dated : DatedSpans (first_at listed) (last_at listed)
      listed_dated = record { begins = λ i h. begins i h (dec_lt i (length b.activities)); ends = λ i. ends i (dec_lt i (length b.activities)) }
        where
          begins : (i : ℕ) → 0 < first_at listed i → Dec (i < length b.activities) → IsDate (first_at listed i)
          begins i h (yes k) = listed_date i k
          begins i h (no k) = let z : first_at listed i ≡ 0 = get_or-eq_default listed 0 {n = i * 3} (omega (arith, listed_long_lem)) in absurd (omega arith)

          ends : (i : ℕ) → Dec (i < length b.activities) → last_at listed i ≤ 47481
          ends i (yes k) = rw (listed_last_lem i k) (last_range i k).last
          ends i (no k) = let z : last_at listed i ≡ 0 = get_or-eq_default listed 0 {n = i * 3 + 1} (omega (arith, listed_long_lem)) in omega arith

-- as `stretch_of` names the places of a row
pub listed_spans : (listed : List ℕ) → DatedSpans (first_at listed) (last_at listed) → DatedSpans (λ i. get_or listed (i * 3 + 0) 0) (λ i. get_or listed (i * 3 + 0 + 1) 0)
listed_spans listed s =
    record {
      begins = λ i h. let z : i * 3 ≡ i * 3 + 0 = omega arith in subst (λ (k : ℕ). IsDate (get_or listed k 0)) z (s.begins i (subst (λ (k : ℕ). 0 < get_or listed k 0) (sym z) h));
      ends = λ i. let z : i * 3 + 1 ≡ i * 3 + 0 + 1 = omega arith in subst (λ (k : ℕ). get_or listed k 0 ≤ 47481) z (s.ends i);
    }

pub listed_covers : (listed : List ℕ) {r : Stretch} → CoversSpans (λ i. get_or listed (i * 3 + 0) 0) (λ i. get_or listed (i * 3 + 0 + 1) 0) r → CoversSpans (first_at listed) (last_at listed) r
listed_covers listed {r} c = subst (λ (f : ℕ → ℕ). CoversSpans f (last_at listed) r) (fun_ext first) (subst (λ (l : ℕ → ℕ). CoversSpans (λ i. get_or listed (i * 3 + 0) 0) l r) (fun_ext last) c)
  where
    first : (i : ℕ) → get_or listed (i * 3 + 0) 0 ≡ first_at listed i
    first i = let z : i * 3 + 0 ≡ i * 3 = omega arith in ap (λ (k : ℕ). get_or listed k 0) z

    last : (i : ℕ) → get_or listed (i * 3 + 0 + 1) 0 ≡ last_at listed i
    last i = let z : i * 3 + 0 + 1 ≡ i * 3 + 1 = omega arith in ap (λ (k : ℕ). get_or listed k 0) z

-- ---- of an accepted book

pub lines_are :
    {s : List ℕ} {date : Option ℕ} {plan : Plan} {baseline : Baseline} → IsPlanOf s date plan → IsBaselineOf s plan baseline →
    (list : Section) → unwrap_or (lines_of s plan.activities.count baseline) [] ≡ alike_in (layout.baseline_line plan.activities.count) s list → IsLines s list plan.activities.count
lines_are {s} p w list e =
    record {
      counted = parents_count (content s) ∙ activities_count p;
      listed = ap (λ (o : Option (List BaselineLine)). unwrap_or o []) w.lines ∙ e;
      ranges = lines_in_range p;
    }
