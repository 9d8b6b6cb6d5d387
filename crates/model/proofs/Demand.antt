-- The client's third demand: the theorem on the planned value.
use Prim.Native.Nat.{ℕ, ◌≤◌, ◌<◌}
use mathlib.Core.Path.{◌≡◌, sym, ap, ap₂, ◌∙◌}
use mathlib.Core.Logic.{◌↔◌}
use mathlib.Core.Bool.{true, false}
use mathlib.Core.List.{List, map, map-map, Memᴰ}
use native.Mathlib.Omega.{arith}
use borrow.Author.Tests.{eqb-true}
use lib.IntN.{ℤ, pos, nat_abs}
use lib.ListN.{length, length-map}
use mir.Syntax.{w64}
use Rattle.integer.specs.Signs.{Between}
use Rattle.integer.specs.Clamp.{most}
use Rattle.integer.specs.Sums.{ints, nats, total}
use Rattle.integer.specs.Folds.{saturated, magnitudes, exact}
use Rattle.money.specs.Shares.{spread}
use Rattle.format.specs.Book.{Activity, Book}
use Rattle.format.specs.Verdict.{Accepted, content}
use Rattle.format.specs.InRange.{InRange}
use Rattle.format.proofs.Theorems.{content_in_range}
use Rattle.lists.specs.Lists.{keep}
use Rattle.model.specs.Amounts.{Dated, spread_over, amounts, is_dated, is_charged}
use Rattle.model.specs.Tree.{parents, indices, is_leaf, leaves, is_below, below, leaves_below, Ancestor}
use Rattle.model.specs.Planned.{budget_of, listed_days, planned_amounts, is_up_to, planned_on, planned_by_day, planned_curve, planned_curve_between}
use Rattle.model.specs.Earned.{no_earned, add_earned, leaf_earned, own_earned, project_earned}
use Rattle.model.specs.Demand.{Reading, distance, first_of, last_of, exact_sum, last_figure, Leaf, NoOwnAncestor, SmallBudgets, PlannedValue, defined_at, DefinedPlannedValue}
use Rattle.lists.proofs.Spans.{span_in_lem}
use Rattle.lists.proofs.Lists.{keep_in, any_some, flat_in, keep_swap, keep_flat, map_kept, map_same}
use Rattle.model.proofs.Tree.{in_leaves_below}
use Rattle.model.proofs.Totals.{total_flat, total_kept, magnitudes_total, magnitudes_kept, magnitudes_less}
use Rattle.model.proofs.Amounts.{dated_day}
use Rattle.model.proofs.Figures.{added_saturated}
use Rattle.model.proofs.Planned.{spread_magnitudes, listed_some, listed_dates, planned_exact, planned_between, planned_less, planned_before, planned_after, planned_nearer}
use Rattle.model.proofs.EarnedValue.{earned_figures_lem, leaf_own, parent_own, leaf_earned_lem, earned_below, project_earned_lem}
use Rattle.model.proofs.Curve.{curve_at}

module _ (book : Book) where
  abbrev planned_at : ℕ → ℕ → ℤ
  planned_at date = (defined_at book date).planned

  abbrev budget_at : ℕ → ℕ → ℤ
  budget_at date = (defined_at book date).budget

  -- ---- which activities are leaves
  inside : (i : ℕ) → Memᴰ i (indices (parents book)) → i < length book.activities
  unfolding parents
  inside i m = omega (arith, span_in_lem 0 (length (parents book)) i m, length-map book.activities (λ (a : Activity). a.parent))

  pub leaf_of : (i : ℕ) → Memᴰ i (leaves (parents book)) → Leaf book i
  unfolding leaves
  leaf_of i m = let k = keep_in (is_leaf (parents book)) i (indices (parents book)) m in (inside i k.0, k.1)

  pub leaf_below : (p i : ℕ) → Memᴰ i (leaves_below (parents book) p) ↔ (Leaf book i × Ancestor (parents book) p i)
  unfolding leaves_below below
  leaf_below p i =
      let ps = parents book in (
        λ m. let k = keep_in (is_leaf ps) i (below ps p) m in ((inside i (keep_in (is_below ps p) i (indices ps) k.0).0, k.1), ((in_leaves_below ps p i).0 m).1),
        λ r. (in_leaves_below ps p i).1 (r.0.1, r.1),
      )

  -- ---- a leaf's figures are its own
  module _ (date i : ℕ) (l : is_leaf (parents book) i ≡ true) where
    planned_own : planned_at date i ≡ planned_on book date i
    unfolding leaf_earned
    planned_own = ap (λ e. e.planned) (leaf_earned_lem book date i l)

    budget_own : budget_at date i ≡ budget_of book i
    unfolding leaf_earned
    budget_own = ap (λ e. e.budget) (leaf_earned_lem book date i l)

  planned_rows : (date : ℕ) → map (planned_at date) (leaves (parents book)) ≡ map (planned_on book date) (leaves (parents book))
  planned_rows date = map_same (planned_at date) (planned_on book date) (leaves (parents book)) (λ i m. planned_own date i (leaf_of i m).1)

  small_budgets : (date : ℕ) → SmallBudgets book (defined_at book date) → magnitudes (map (budget_of book) (leaves (parents book))) ≤ most w64
  small_budgets date h = omega (arith, ap magnitudes (map_same (budget_at date) (budget_of book) (leaves (parents book)) (λ i m. budget_own date i (leaf_of i m).1)))

module _ (book : Book) (ok : InRange book) where
  -- ---- a leaf
  module _ (date i : ℕ) (l : is_leaf (parents book) i ≡ true) where
    between_is : Between (planned_at book date i) (budget_at book date i)
    between_is = rw (planned_own book date i l, budget_own book date i l) (planned_between book i ok date)

    before_is : date < first_of (listed_days book i) → planned_at book date i ≡ pos 0
    before_is h = planned_own book date i l ∙ planned_before book i ok date h

    after_is : last_of (listed_days book i) ≤ date → planned_at book date i ≡ budget_at book date i
    after_is h = planned_own book date i l ∙ planned_after book i ok date h ∙ sym (budget_own book date i l)

  nearer_is : (d e i : ℕ) → d ≤ e → is_leaf (parents book) i ≡ true → distance (budget_at book e i) (planned_at book e i) ≤ distance (budget_at book d i) (planned_at book d i)
  nearer_is d e i h l = rw (budget_own book e i l, planned_own book e i l, budget_own book d i l, planned_own book d i l) (planned_nearer book i ok d e h)

  module _ (small : magnitudes (map (budget_of book) (leaves (parents book))) ≤ most w64) where
    planned_small : (date : ℕ) → magnitudes (map (planned_on book date) (leaves (parents book))) ≤ most w64
    planned_small date = omega (arith, magnitudes_less (planned_on book date) (budget_of book) (leaves (parents book)) (λ i m. planned_less book i ok date))

    -- ---- a parent
    module _ (date p : ℕ) where
      -- the planned value of an activity's own row
      abbrev own : ℕ → ℤ
      own i = (own_earned book date i).planned

      own_none : (i : ℕ) → is_leaf (parents book) i ≡ false → own i ≡ pos 0
      own_none i l = ap (λ e. e.planned) (parent_own book date i l)

      own_leaf : (i : ℕ) → Memᴰ i (leaves (parents book)) → own i ≡ planned_on book date i
      unfolding leaf_earned
      own_leaf i m = ap (λ e. e.planned) (leaf_own book date i (leaf_of book i m).1)

      leaves_below_lem : leaves_below (parents book) p ≡ keep (is_below (parents book) p) (leaves (parents book))
      unfolding leaves_below below leaves
      leaves_below_lem = keep_swap (is_below (parents book) p) (is_leaf (parents book)) (indices (parents book))

      below_small : magnitudes (map own (below (parents book) p)) ≤ most w64
      unfolding leaves_below
      below_small =
          let ps = parents book in
          omega (
            arith,
            magnitudes_total own (below ps p),
            total_kept nats (λ i. nat_abs (own i)) (is_leaf ps) (below ps p) (λ i l. ap nat_abs (own_none i l)),
            ap (λ (is : List ℕ). total nats (map (λ i. nat_abs (own i)) is)) leaves_below_lem,
            magnitudes_total own (keep (is_below ps p) (leaves ps)),
            magnitudes_kept own (is_below ps p) (leaves ps),
            ap magnitudes (map_same own (planned_on book date) (leaves ps) own_leaf),
            planned_small date,
          )

      own_rows : map own (leaves_below (parents book) p) ≡ map (planned_at book date) (leaves_below (parents book) p)
      unfolding leaves_below leaf_earned
      own_rows =
          map_kept (is_leaf (parents book)) own (planned_at book date) (below (parents book) p)
          (λ i l. ap (λ e. e.planned) (leaf_own book date i l) ∙ sym (ap (λ e. e.planned) (leaf_earned_lem book date i l)))

      parent_is : NoOwnAncestor book → is_leaf (parents book) p ≡ false → planned_at book date p ≡ exact_sum (planned_at book date) (leaves_below (parents book) p)
      unfolding leaves_below
      parent_is a l =
          let ps = parents book in
          let rows = map (own_earned book date) (below ps p) in
          ap (λ e. e.planned) (earned_below book date a p)
          ∙ added_saturated add_earned (λ e. e.planned) earned_figures_lem.1 (own_earned book date p) rows
          ∙ ap₂ (saturated w64) (own_none p l) (map-map (λ e. e.planned) (own_earned book date) (below ps p))
          ∙ exact w64 (map own (below ps p)) below_small
          ∙ sym (total_kept ints own (is_leaf ps) (below ps p) own_none)
          ∙ ap (total ints) own_rows

    -- ---- the project
    project_is : (date : ℕ) → (project_earned book date).planned ≡ exact_sum (planned_at book date) (leaves (parents book))
    unfolding leaf_earned
    project_is date =
        let is = leaves (parents book) in
        ap (λ e. e.planned) (project_earned_lem book date)
        ∙ added_saturated add_earned (λ e. e.planned) earned_figures_lem.1 no_earned (map (leaf_earned book date) is)
        ∙ ap (saturated w64 (pos 0)) (map-map (λ e. e.planned) (leaf_earned book date) is)
        ∙ exact w64 (map (planned_on book date) is) (planned_small date)
        ∙ ap (total ints) (sym (planned_rows book date))

    -- ---- the curve
    curve_small : magnitudes (amounts (planned_by_day book)) ≤ most w64
    unfolding planned_by_day planned_amounts
    curve_small =
        let is = leaves (parents book) in
        omega (
          arith,
          magnitudes_total (λ (x : Dated). x.amount) (planned_by_day book),
          total_flat nats (λ (x : Dated). nat_abs x.amount) (planned_amounts book) is,
          ap (total nats) (map_same (λ i. total nats (map (λ (x : Dated). nat_abs x.amount) (planned_amounts book i))) (λ i. nat_abs (budget_of book i)) is
              (λ i m. sym (magnitudes_total (λ (x : Dated). x.amount) (planned_amounts book i)) ∙ spread_magnitudes (budget_of book i) (listed_days book i) (listed_some book i))),
          magnitudes_total (budget_of book) is,
        )

    curve_from : (t : ℕ) → is_charged (planned_by_day book) t ≡ true → 10957 ≤ t
    unfolding is_charged planned_by_day planned_amounts spread_over
    curve_from t e =
        let x = any_some (is_dated t) (planned_by_day book) e in
        let i = flat_in (planned_amounts book) x.0 (leaves (parents book)) x.1 in
        let d = listed_dates book i.0 ok (leaf_of book i.0 i.1).0 x.0.day (dated_day (listed_days book i.0) (spread (budget_of book i.0) (length (listed_days book i.0))) x.0 i.2) in
        omega (arith, d.first, eqb-true x.0.day t x.2)

    curve_is : (d e : ℕ) → d ≤ e → (project_earned book d).planned ≡ last_figure d (planned_curve_between book 10957 e)
    unfolding planned_curve_between planned_curve planned_by_day
    curve_is d e h =
        let is = leaves (parents book) in
        project_is d
        ∙ ap (total ints) (planned_rows book d ∙ map_same (planned_on book d) (λ i. total ints (amounts (keep (is_up_to d) (planned_amounts book i)))) is (λ i m. planned_exact book i ok d))
        ∙ sym (total_flat ints (λ (x : Dated). x.amount) (λ i. keep (is_up_to d) (planned_amounts book i)) is)
        ∙ ap (λ (l : List Dated). total ints (amounts l)) (sym (keep_flat (is_up_to d) (planned_amounts book) is))
        ∙ sym (curve_at (planned_by_day book) curve_small 10957 e d h curve_from)

-- of an accepted book where no activity is its own ancestor and the leaf budgets, signs dropped, add to at most 2^63 − 1, for any two dates
pub planned_value : (s : List ℕ) → Accepted s → NoOwnAncestor (content s) → (d e : ℕ) → d ≤ e → SmallBudgets (content s) (defined_at (content s) d) → DefinedPlannedValue (content s) d e
planned_value s w a d e h small =
    let book = content s in
    let ok = content_in_range s w in
    let budgets = small_budgets book d small in
    record {
      between = (λ i l. between_is book ok d i l.1, λ i l. between_is book ok e i l.1);
      nearer = λ i l. nearer_is book ok d e i h l.1;
      same_budget = λ i l. budget_own book e i l.1 ∙ sym (budget_own book d i l.1);
      before = (λ i l. before_is book ok d i l.1, λ i l. before_is book ok e i l.1);
      after = (λ i l. after_is book ok d i l.1, λ i l. after_is book ok e i l.1);
      parent = (λ p l. parent_is book ok budgets d p a l.1, λ p l. parent_is book ok budgets e p a l.1);
      below = leaf_below book;
      project = (project_is book ok budgets d, project_is book ok budgets e);
      on_curve = curve_is book ok budgets d e h;
    }

-- ---- readings that are the definitions' of every activity
pub record Reads (book : Book) (r : Reading) : Type 0 where
  pub planned : (i : ℕ) → i < length book.activities → r.planned i ≡ (defined_at book r.date).planned i
  pub budget : (i : ℕ) → i < length book.activities → r.budget i ≡ (defined_at book r.date).budget i
  pub project : r.project ≡ (defined_at book r.date).project

module _ (book : Book) where
  module _ (r : Reading) (reads : Reads book r) where
    read_between : (i : ℕ) → Leaf book i → Between (planned_at book r.date i) (budget_at book r.date i) → Between (r.planned i) (r.budget i)
    read_between i l b = rw (reads.planned i l.0, reads.budget i l.0) b

    read_sum : (is : List ℕ) → ((i : ℕ) → Memᴰ i is → Leaf book i) → exact_sum (planned_at book r.date) is ≡ exact_sum r.planned is
    read_sum is inside = ap (total ints) (sym (map_same r.planned (planned_at book r.date) is (λ i m. reads.planned i (inside i m).0)))

    read_small : SmallBudgets book r → SmallBudgets book (defined_at book r.date)
    read_small h = omega (arith, ap magnitudes (map_same r.budget (budget_at book r.date) (leaves (parents book)) (λ i m. reads.budget i (leaf_of book i m).0)))

  -- the sentences are theirs too
  read_value : (D E : Reading) → Reads book D → Reads book E → DefinedPlannedValue book D.date E.date → PlannedValue book D E (planned_curve_between book 10957 E.date)
  read_value D E f g v =
      let all = leaves (parents book) in
      let under : ℕ → List ℕ = leaves_below (parents book) in
      record {
        between = (λ i l. read_between D f i l (v.between.0 i l), λ i l. read_between E g i l (v.between.1 i l));
        nearer = λ i l. rw (f.planned i l.0, f.budget i l.0, g.planned i l.0, g.budget i l.0) (v.nearer i l);
        same_budget = λ i l. g.budget i l.0 ∙ v.same_budget i l ∙ sym (f.budget i l.0);
        before = (λ i l h. f.planned i l.0 ∙ v.before.0 i l h, λ i l h. g.planned i l.0 ∙ v.before.1 i l h);
        after = (
          λ i l h. f.planned i l.0 ∙ v.after.0 i l h ∙ sym (f.budget i l.0),
          λ i l h. g.planned i l.0 ∙ v.after.1 i l h ∙ sym (g.budget i l.0),
        );
        parent = (
          λ p l. f.planned p l.0 ∙ v.parent.0 p l ∙ read_sum D f (under p) (λ i m. ((v.below p i).0 m).0),
          λ p l. g.planned p l.0 ∙ v.parent.1 p l ∙ read_sum E g (under p) (λ i m. ((v.below p i).0 m).0),
        );
        below = v.below;
        project = (f.project ∙ v.project.0 ∙ read_sum D f all (leaf_of book), g.project ∙ v.project.1 ∙ read_sum E g all (leaf_of book));
        on_curve = f.project ∙ v.on_curve;
      }

-- and of such readings
pub planned_value_read : (s : List ℕ) → Accepted s → NoOwnAncestor (content s) → (D E : Reading) → Reads (content s) D → Reads (content s) E → D.date ≤ E.date → SmallBudgets (content s) D → PlannedValue (content s) D E (planned_curve_between (content s) 10957 E.date)
planned_value_read s w a D E f g h small = read_value (content s) D E f g (planned_value s w a D.date E.date h (read_small (content s) D f small))
