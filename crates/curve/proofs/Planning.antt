-- What planned value is made of, of an accepted book: the budgets, laid over their spans, are what is planned by day, within the stretch of the spans.
use Prim.Native.Nat.{ℕ, ◌+◌, ◌*◌, ◌-◌, ◌≤◌, ◌<◌}
use mathlib.Core.Path.{◌≡◌, refl, sym, ap, ap₂, ◌∙◌, subst}
use mathlib.Core.Bool.{Bool, true, false, cond}
use mathlib.Core.List.{List, [], ◌∷◌, ◌++◌, flat_map, Memᴰ}
use native.Mathlib.Omega.{arith}
use borrow.Author.Tests.{eq-eqb, ne_eqb}
use lib.IntN.{ℤ, pos}
use lib.ListN.{length, get_or}
use Rattle.money.specs.Shares.{spread}
use Rattle.format.specs.Book.{Book}
use Rattle.format.specs.InRange.{InRange}
use Rattle.lists.specs.Lists.{span, cons_if, keep}
use Rattle.model.specs.Lookup.{calendar_at}
use Rattle.model.specs.Amounts.{Dated, spread_over, is_charged}
use Rattle.model.specs.Tree.{parents, indices, is_leaf, leaves}
use Rattle.model.specs.Planned.{budget_of, listed_days, planned_amounts, planned_by_day}
use Rattle.lists.proofs.Spans.{span_in_lem}
use Rattle.lists.proofs.Lists.{keep_in}
use Rattle.calendar.specs.Tables.{ShowsAll}
use Rattle.tree.specs.Figures.{figure_of}
use Rattle.spans.specs.declared.Stretch.{Stretch}
use Rattle.spans.specs.Stretches.{CoversSpans}
use Rattle.spans.proofs.Days.{days_covered}
use Rattle.laid.specs.declared.days.Span.{Span}
use Rattle.laid.specs.Laid.{Laid}
use Rattle.laid.specs.Listed.{listed_in, span_of, IsSpan}
use Rattle.laid.proofs.Dates.{span_is}
use Rattle.laid.proofs.Laying.{Laying, laying_none, laying_more, laying_past, laying_end, laid_same}
use Rattle.bydate.proofs.Showing.{row_listed}
use Rattle.bydate.proofs.Falling.{charged_some, charged_dated}
use Rattle.bydate.proofs.Each.{each_from, each_next, each_end}
use Rattle.baseline.specs.Listed.{first_at, last_at, number_at}
use Rattle.baseline.proofs.Listing.{budgets_long_lem, budget_at_lem, listed_list, listed_named, listed_days_lem}
use Rattle.model.proofs.Tree.{parents_count}
use Rattle.planned.specs.Tabled.{tabled, AreTabled}
use Rattle.planned.proofs.Tabling.{spans_begin}
use Rattle.curve.specs.Budgeted.{budget_laid, budgets_laid}
use Rattle.phased.specs.Columns.{ArePhased}

-- ---- leaf after leaf

module _ (base width : ℕ) (days marks listed : List ℕ) (budgets : List ℤ) where
  -- what the activities from i on give
  abbrev pub laid_from : ℕ → List Dated
  laid_from i = each_from (budget_laid base width days marks listed budgets) (length budgets) i

  laid_next : (i : ℕ) → i < length budgets → laid_from i ≡ budget_laid base width days marks listed budgets i ++ laid_from (i + 1)
  laid_next = each_next (budget_laid base width days marks listed budgets) (length budgets)

  pub leaves_none : (table : List ℕ) → Laying base (budgets_laid base width days marks listed budgets) table (laid_from 0) table
  unfolding budgets_laid
  leaves_none table =
      let all : length budgets ≡ length budgets - 0 = omega arith in
      subst (λ (n : ℕ). Laying base (budgets_laid base width days marks listed budgets) table (flat_map (budget_laid base width days marks listed budgets) (span 0 n)) table) all
      (laying_none base (budgets_laid base width days marks listed budgets) table)

  module _ {all : List Dated} {before : List ℕ} {i : ℕ} {table : List ℕ} (l : Laying base all before (laid_from i) table) (h : i < length budgets) where
    -- a parent
    pub leaves_past : (get_or marks i 0 ≡ 0 → ⊥) → Laying base all before (laid_from (i + 1)) table
    leaves_past n = laying_past l (laid_next i h ∙ ap (λ (b : Bool). cond b (spread_over (figure_of budgets i) (tabled base width days listed i)) [] ++ laid_from (i + 1)) (ne_eqb (get_or marks i 0) 0 n))

    -- a leaf, over its span as the code makes it
    pub leaves_more : get_or marks i 0 ≡ 0 → {r : Span} → r ≡ span_of days (number_at listed i * width) base (first_at listed i) (last_at listed i) → {after : List ℕ}
        → Laid r.base (spread_over (figure_of budgets i) (listed_in days r)) table after → Laying base all before (laid_from (i + 1)) after
    leaves_more z e {after} m =
        laying_more l (laid_next i h)
        (laid_same (sym (ap (λ (b : Bool). cond b (spread_over (figure_of budgets i) (tabled base width days listed i)) []) (eq-eqb (get_or marks i 0) 0 z)))
        (subst (λ (s : Span). Laid s.base (spread_over (figure_of budgets i) (listed_in days s)) table after) e m))

  pub leaves_end : {all : List Dated} {before : List ℕ} {i : ℕ} {table : List ℕ} → Laying base all before (laid_from i) table → length budgets ≤ i → Laid base all before table
  leaves_end {i} l h = laying_end l (each_end (budget_laid base width days marks listed budgets) (length budgets) i h)

-- ---- a span, by what is read of the table

module _ {base width n : ℕ} {days listed : List ℕ} (w : AreTabled base width n days listed) (i : ℕ) (h : i < n) where
  pub span_has : {r : Span} → r ≡ span_of days (number_at listed i * width) base (first_at listed i) (last_at listed i) → IsSpan days r
  span_has e = subst (IsSpan days) (sym e) (span_is (w.covers i h))

-- ---- of an accepted book

-- what the elements that pass give is what all give, where those that do not pass give nothing
flat_kept : {A B : Type 0} (q : A → Bool) (f g : A → List B) (xs : List A) → ((x : A) → Memᴰ x xs → g x ≡ cond (q x) (f x) []) → flat_map g xs ≡ flat_map f (keep q xs)
unfolding flat_map keep
flat_kept q f g [] h = refl
flat_kept {A} {B} q f g (x ∷ xs) h = ap₂ (λ (l r : List B). l ++ r) (h x (Memᴰ.head refl)) (flat_kept q f g xs (λ y m. h y (Memᴰ.tail m))) ∙ go (q x)
  where
    go : (b : Bool) → cond b (f x) [] ++ flat_map f (keep q xs) ≡ flat_map f (cons_if b x (keep q xs))
    go true = refl
    go false = refl

module _ (b : Book) {marks listed : List ℕ} {budgets : List ℤ} (w : ArePhased b marks listed budgets) (range : InRange b)
    {known : Stretch} (c : CoversSpans (first_at listed) (last_at listed) known)
  where
    begins : (i : ℕ) → i < length b.activities → 0 < first_at listed i
    begins i h = spans_begin b w.spanned range i h

    -- what is planned falls within the stretch
    pub planned_within : (d : ℕ) → is_charged (planned_by_day b) d ≡ true → (known.from ≤ d) × (d ≤ known.to)
    unfolding planned_by_day leaves planned_amounts spread_over
    planned_within d e =
        charged_some d (planned_amounts b) (leaves (parents b))
        (λ i m.
        let h = span_in_lem 0 (length (parents b)) i (keep_in (is_leaf (parents b)) i (indices (parents b)) m).0 in
        charged_dated d (listed_days b i) (spread (budget_of b i) (length (listed_days b i)))
        (λ k. days_covered c (calendar_at b (number_at listed i)) i d (subst (Memᴰ d) (listed_days_lem b w.spanned range i (omega (arith, h.1, parents_count b))) k)))
        e

    module _ {days : List ℕ} (some : 1 ≤ length b.calendars) (few : length b.calendars ≤ 16) (most : length b.activities ≤ 500)
        (room : length b.calendars * (known.to + 1 - known.from) ≤ length days)
      where
        module _ (shows : ShowsAll b.calendars known.from known.to days) where
          leaf_laid : (i : ℕ) → i < length b.activities → budget_laid known.from (known.to + 1 - known.from) days marks listed budgets i ≡ cond (is_leaf (parents b) i) (planned_amounts b i) []
          unfolding planned_amounts
          leaf_laid i h =
              let leaf = is_leaf (parents b) i in
              let list =
              row_listed shows (number_at listed i) (listed_named b w.spanned range some i h) (first_at listed i) (last_at listed i) (c.begins i (begins i h)) (c.ends i (begins i h))
              ∙ sym (listed_list b w.spanned i h)
              in
              ap₂ (λ (t : Bool) (l : List ℕ). cond t (spread_over (figure_of budgets i) l) []) (w.marked i (omega (arith, parents_count b))) list
              ∙ ap (λ (z : ℤ). cond leaf (spread_over z (listed_days b i)) []) (budget_at_lem b w.budgeted i h)
              ∙ go leaf
            where
              go : (t : Bool) → cond t (spread_over (cond t (budget_of b i) (pos 0)) (listed_days b i)) [] ≡ cond t (spread_over (budget_of b i) (listed_days b i)) []
              go true = refl
              go false = refl

          pub lists_planned : budgets_laid known.from (known.to + 1 - known.from) days marks listed budgets ≡ planned_by_day b
          unfolding budgets_laid planned_by_day leaves
          lists_planned =
              let same : length budgets ≡ length (parents b) = budgets_long_lem b w.budgeted ∙ sym (parents_count b) in
              let laid : ℕ → List Dated = budget_laid known.from (known.to + 1 - known.from) days marks listed budgets in
              ap (λ (m : ℕ). flat_map laid (span 0 m)) same
              ∙ flat_kept (is_leaf (parents b)) (planned_amounts b) laid (indices (parents b)) (λ i m. leaf_laid i (omega (arith, (span_in_lem 0 (length (parents b)) i m).1, parents_count b)))
