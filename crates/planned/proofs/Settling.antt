-- Planned value of the activities of a book, by a table of the days of its calendars.
use Rattle.std.specs.Prelude.{None, Option, Some}
use Prim.Native.Nat.{ℕ, ◌*◌, ◌<◌}
use mathlib.Core.Path.{◌≡◌, refl, sym, ap, ap₂, ◌∙◌}
use mathlib.Core.Bool.{Bool, true, false, cond}
use mathlib.Core.List.{List, map}
use native.Mathlib.Omega.{arith}
use lib.IntN.{ℤ, pos}
use lib.ListN.{length}
use Rattle.format.specs.Book.{BaselineLine, Book}
use Rattle.lists.specs.Lists.{span}
use Rattle.model.specs.Tree.{parents, indices, is_leaf}
use Rattle.model.specs.Lookup.{activity_at}
use Rattle.model.specs.Days.{dates_between}
use Rattle.model.specs.Planned.{line_of, budget_of, listed_days, planned_amounts, planned_on}
use Rattle.model.specs.Walk.{dates_by, counts_of, walk_of}
use Rattle.model.specs.Earned.{no_earned, leaf_earned, own_earned, project_earned}
use Rattle.model.proofs.Planned.{listed_rise, listed_some}
use Rattle.tree.specs.Figures.{unmarked_sum, MarksLeaves}
use Rattle.tree.proofs.Figured.{planned_leaves}
use Rattle.baseline.specs.Listed.{by_line, start_of, finish_of, listed_first, listed_last, of_leaf, first_at, last_at, number_at}
use Rattle.lists.proofs.Spans.{made_length, made_at}
use Rattle.baseline.proofs.Entries.{entries_are}
use Rattle.baseline.proofs.Listing.{budgets_long_lem, budget_at_lem, listed_first_lem, listed_last_lem, listed_named, listed_list}
use Rattle.model.proofs.Tree.{parents_count}
use Rattle.spans.specs.declared.Stretch.{Stretch}
use Rattle.bydate.specs.Sizes.{dates_of}
use Rattle.bydate.proofs.Showing.{row_listed}
use Rattle.planned.specs.Walked.{walked_in}
use Rattle.planned.specs.Values.{planned_in, planned_by, planned_at}
use Rattle.planned.specs.Tabled.{tabled}
use Rattle.planned.specs.Reached.{AreDays}
use Rattle.planned.proofs.Portions.{planned_nought}
use Rattle.planned.proofs.Tabling.{spans_begin}

-- planned value of a leaf, 0 of a parent
own_at : (b : Book) (date i : ℕ) → planned_in date (of_leaf b (budget_of b) i) (listed_days b i) ≡ (own_earned b date i).planned
unfolding own_earned leaf_earned planned_on planned_amounts planned_in
own_at b date i = go (is_leaf (parents b) i)
  where
    go : (leaf : Bool) → planned_in date (cond leaf (budget_of b i) (pos 0)) (listed_days b i) ≡ (cond leaf (leaf_earned b date i) no_earned).planned
    go true = refl
    go false = planned_nought date (pos 0) (record { sfits = omega arith }) (listed_days b i) (listed_rise b i) (listed_some b i) refl

-- by a table of days
module _ {b : Book} {known : Stretch} {listed : List ℕ} {budgets : List ℤ} {days : List ℕ} (d : AreDays b known listed budgets days) (date : ℕ) where
  abbrev at : ℕ → ℤ
  at = planned_at known.from (dates_of known) days date listed budgets

  long : length budgets ≡ length b.activities
  long = budgets_long_lem b d.budgeted

  -- the days of its span that its calendar's row lists
  module _ (i : ℕ) (h : i < length b.activities) where
    days_listed : tabled known.from (dates_of known) days listed i ≡ listed_days b i
    days_listed =
        let z = spans_begin b d.spans d.range i h in
        row_listed d.shows (number_at listed i) (listed_named b d.spans d.range d.limits.some_calendar i h) (first_at listed i) (last_at listed i) (d.covers.begins i z) (d.covers.ends i z)
        ∙ sym (listed_list b d.spans i h)

    dates_listed : length (dates_between (first_at listed i) (last_at listed i)) ≡ dates_by (activity_at b i) (line_of b i)
    unfolding listed_first listed_last
    dates_listed = rw (listed_first_lem b d.spans i h, listed_last_lem b d.spans i h) (go (line_of b i))
      where
        go : (o : Option BaselineLine) → let a = activity_at b i in length (dates_between (by_line start_of o a.early_start) (by_line finish_of o a.early_finish)) ≡ dates_by a o
        go None = refl
        go (Some l) = refl

    -- the walk over them is document 02's
    pub one_walked : walked_in (number_at listed i * dates_of known) known.from days date (first_at listed i) (last_at listed i) ≡ walk_of b date i
    unfolding walked_in walk_of
    one_walked = ap₂ (counts_of date) days_listed dates_listed

    -- and what is planned is planned value
    pub one_planned : planned_at known.from (dates_of known) days date listed budgets i ≡ (own_earned b date i).planned
    unfolding planned_by
    one_planned = ap₂ (planned_in date) (budget_at_lem b d.budgeted i h) days_listed ∙ own_at b date i

  all_planned : map at (span 0 (length budgets)) ≡ map (λ i. (own_earned b date i).planned) (indices (parents b))
  all_planned =
      entries_are (λ i. (own_earned b date i).planned) (pos 0) (map at (span 0 (length budgets))) (length (parents b)) (made_length at (length budgets) ∙ long ∙ sym (parents_count b))
      (λ i h.
      let k : i < length b.activities = omega (arith, parents_count b) in
      made_at at (pos 0) (length budgets) i (omega (arith, long)) ∙ one_planned i k)

  -- of the leaves, added up
  pub leaves_all : (marks : List ℕ) → MarksLeaves marks (parents b) → unmarked_sum marks (map (planned_at known.from (dates_of known) days date listed budgets) (span 0 (length budgets))) ≡ (project_earned b date).planned
  leaves_all marks m = ap (unmarked_sum marks) all_planned ∙ planned_leaves b date marks m
