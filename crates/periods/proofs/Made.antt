-- From the closes, the planned values and the figures of the records to the rows of the periods.
use Rattle.std.specs.Prelude.{None, Some, option_map}
use Prim.Native.Nat.{ℕ, zero, suc, ◌+◌, ◌*◌, ◌<◌}
use native.Mathlib.Omega.{arith}
use mathlib.Core.Path.{◌≡◌, refl, sym, ap, ◌∙◌, subst}
use mathlib.Core.Bool.{Bool, true, false, cond, ◌&&◌, ◌||◌}
use mathlib.Core.List.{List, [], ◌∷◌, map, flat_map, foldl, Memᴰ}
use lib.Dec.{eqb, leb}
use lib.IntN.{ℤ, pos, ◌+ℤ◌}
use lib.ListN.{length, get_or, take, replicate, length-map, length-append}
use mir.Syntax.{w64}
use Rattle.integer.specs.Clamp.{clamp}
use Rattle.integer.specs.Folds.{saturated}
use Rattle.format.specs.Book.{PeriodRecord, Book}
use Rattle.format.specs.InRange.{Every, InRange, PeriodRecordInRange}
use Rattle.format.specs.Format as layout
use Rattle.format.specs.Verdict.{content}
use Rattle.sections.specs.Sections.{alike_in}
use Rattle.book.proofs.Plan.{periods_count, records_in_range}
use Rattle.lists.specs.Lists.{any, span, cons_if, keep}
use Rattle.money.specs.Words.{bits}
use Rattle.model.specs.Tree.{parents}
use Rattle.model.specs.Earned.{project_earned}
use Rattle.model.specs.Periods.{PeriodPoint, finish_of, actual_in, of_leaf, is_stored, records_to_date, to_date, period_point, period_points}
use Rattle.model.proofs.Tree.{parents_count}
use Rattle.lists.proofs.Spans.{span_in_lem, span_length}
use Rattle.tree.specs.Figures.{figure_of, is_unmarked, MarksLeaves}
use Rattle.lists.proofs.Lists.{at_map}
use Rattle.flat.proofs.Cells.{cell_inside}
use Rattle.flat.proofs.Tables.{flat_same, flat_map_map}
use Rattle.rows.specs.Rows.{numbers, optional}
use Rattle.rows.proofs.Sets.{optional_two}
use Rattle.format.proofs.Every.{every_in}
use Rattle.calendar.specs.Changes.{Changed}
use Rattle.answers.specs.declared.open.Opened.{Opened}
use Rattle.answers.specs.Opened.{IsOpened}
use Rattle.answers.specs.Rows.{period_row, period_points_rows}
use Rattle.answers.proofs.Sized.{Sized, sized}
use Rattle.periods.specs.Points.{recorded, point_row, point_at}

-- ---- a fold over records

module _ {A : Type 0} (leaf mine counts : A → Bool) where
  -- those that count, added up
  added_up :
      (f : A → ℤ) (z : ℤ) (rs : List A) → ((r : A) → Memᴰ r rs → leaf r ≡ mine r) →
      foldl (λ (y : ℤ) (r : A). cond (leaf r) (cond (counts r) (clamp w64 (y +ℤ f r)) y) y) z rs ≡ saturated w64 z (map f (keep (λ r. counts r && mine r) rs))
  unfolding saturated keep
  added_up f z [] h = refl
  added_up f z (r ∷ rs) h =
      added_up f (cond (leaf r) (cond (counts r) (clamp w64 (z +ℤ f r)) z) z) rs (λ x m. h x (Memᴰ.tail m))
      ∙ ap (λ (b : Bool). saturated w64 (cond b (cond (counts r) (clamp w64 (z +ℤ f r)) z) z) (map f (keep (λ r. counts r && mine r) rs))) (h r (Memᴰ.head refl))
      ∙ go (counts r) (mine r)
    where
      go :
          (a b : Bool) → saturated w64 (cond b (cond a (clamp w64 (z +ℤ f r)) z) z) (map f (keep (λ r. counts r && mine r) rs))
          ≡ saturated w64 z (map f (cons_if (a && b) r (keep (λ r. counts r && mine r) rs)))
      go true true = refl
      go true false = refl
      go false true = refl
      go false false = refl

  -- whether any counts
  marked :
      (z : ℤ) (rs : List A) → ((r : A) → Memᴰ r rs → leaf r ≡ mine r) →
      foldl (λ (y : ℤ) (r : A). cond (leaf r) (cond (counts r) (pos 1) y) y) z rs ≡ cond (any (λ r. counts r && mine r) rs) (pos 1) z
  unfolding any
  marked z [] h = refl
  marked z (r ∷ rs) h =
      marked (cond (leaf r) (cond (counts r) (pos 1) z) z) rs (λ x m. h x (Memᴰ.tail m))
      ∙ ap (λ (b : Bool). cond (any (λ r. counts r && mine r) rs) (pos 1) (cond b (cond (counts r) (pos 1) z) z)) (h r (Memᴰ.head refl))
      ∙ go (counts r) (mine r) (any (λ r. counts r && mine r) rs)
    where
      go : (a b c : Bool) → cond c (pos 1) (cond b (cond a (pos 1) z) z) ≡ cond ((a && b) || c) (pos 1) z
      go true true true = refl
      go true true false = refl
      go true false c = refl
      go false true c = refl
      go false false c = refl

-- ---- of a book

module _ (b : Book) (ok : InRange b) (marks : List ℕ) (m : MarksLeaves marks (parents b)) where
  leaf_marked : (r : PeriodRecord) → Memᴰ r b.records → is_unmarked marks r.activity ≡ of_leaf b r
  unfolding parents
  leaf_marked r i =
      m r.activity
      (omega (arith, (every_in (PeriodRecordInRange (length b.periods) (length b.activities)) b.records ok.records r i).activity, parents_count b))

  module _ (p : ℕ) where
    stored_is : recorded marks b.periods b.records p 0 (pos 0) ≡ cond (is_stored b p) (pos 1) (pos 0)
    unfolding recorded is_stored
    stored_is = marked (λ r. is_unmarked marks r.activity) (of_leaf b) (λ r. eqb r.period p) (pos 0) b.records leaf_marked

    earned_is : recorded marks b.periods b.records p 1 (pos 0) ≡ saturated w64 (pos 0) (map (λ (r : PeriodRecord). r.earned) (records_to_date b p))
    unfolding recorded records_to_date
    earned_is = added_up (λ r. is_unmarked marks r.activity) (of_leaf b) (λ r. leb (finish_of b r.period) (finish_of b p)) (λ r. r.earned) (pos 0) b.records leaf_marked

    actual_is : recorded marks b.periods b.records p 2 (pos 0) ≡ saturated w64 (pos 0) (map actual_in (records_to_date b p))
    unfolding recorded records_to_date
    actual_is = added_up (λ r. is_unmarked marks r.activity) (of_leaf b) (λ r. leb (finish_of b r.period) (finish_of b p)) actual_in (pos 0) b.records leaf_marked

    -- the row of a period, from its figures
    row_is :
        {stored earned actual : ℤ} → stored ≡ recorded marks b.periods b.records p 0 (pos 0) → earned ≡ recorded marks b.periods b.records p 1 (pos 0) → actual ≡ recorded marks b.periods b.records p 2 (pos 0) →
        point_row p (finish_of b p) (project_earned b (finish_of b p)).planned stored earned actual ≡ period_row (period_point b p)
    unfolding period_row period_point to_date optional
    row_is e f g = rw (e ∙ stored_is, f ∙ earned_is, g ∙ actual_is) (go (is_stored b p))
      where
        spent : ℤ
        spent = saturated w64 (pos 0) (map actual_in (records_to_date b p))

        worth : ℤ
        worth = saturated w64 (pos 0) (map (λ (r : PeriodRecord). r.earned) (records_to_date b p))

        go :
            (s : Bool) → point_row p (finish_of b p) (project_earned b (finish_of b p)).planned (cond s (pos 1) (pos 0)) worth spent
            ≡ period_row record { period = p; finish = finish_of b p; planned = (project_earned b (finish_of b p)).planned; earned = cond s (Some worth) None; actual = cond s (Some spent) None }
        go true = refl
        go false = refl

  -- all rows
  module _
      {finishes : List ℕ} {planned before figures : List ℤ} {records : List PeriodRecord} (e : finishes ≡ b.periods) (f : planned ≡ map (λ (d : ℕ). (project_earned b d).planned) finishes)
      (g : b.records ≡ records) (long : length before ≡ length finishes * 3) (zeros : (i : ℕ) → figure_of before i ≡ pos 0) (c : Changed 3 (recorded marks finishes records) before figures)
    where
      figure : (p j : ℕ) → p < length finishes → j < 3 → figure_of figures (p * 3 + j) ≡ recorded marks b.periods b.records p j (pos 0)
      figure p j h l =
          c.at p j l (omega (arith, cell_inside {i = p} {j = j} {n = length finishes} {width = 3} h l))
          ∙ ap (recorded marks finishes records p j) (zeros (p * 3 + j))
          ∙ ap (λ (rs : List PeriodRecord). recorded marks finishes rs p j (pos 0)) (sym g)
          ∙ ap (λ (t : List ℕ). recorded marks t b.records p j (pos 0)) e

      one : (p : ℕ) → p < length finishes → point_at finishes planned figures p ≡ period_row (period_point b p)
      unfolding point_at
      one p h =
          let z : p * 3 ≡ p * 3 + 0 = omega arith in
          let close : get_or finishes p 0 ≡ finish_of b p = ap (λ (t : List ℕ). get_or t p 0) e in
          let value : figure_of planned p ≡ (project_earned b (finish_of b p)).planned =
          ap (λ (t : List ℤ). figure_of t p) f ∙ at_map (λ (d : ℕ). (project_earned b d).planned) finishes p 0 (pos 0) h ∙ ap (λ (d : ℕ). (project_earned b d).planned) close
          in
          rw (close, value) (row_is p (ap (figure_of figures) z ∙ figure p 0 h (omega arith)) (figure p 1 h (omega arith)) (figure p 2 h (omega arith)))

      pub rows_are : flat_map (point_at finishes planned figures) (span 0 (length finishes)) ≡ numbers (period_points_rows b)
      unfolding numbers period_points_rows period_points
      rows_are =
          flat_same (point_at finishes planned figures) (λ p. period_row (period_point b p)) (span 0 (length finishes)) (λ p i. one p (omega (arith, span_in_lem 0 (length finishes) p i)))
          ∙ ap (λ (xs : List ℕ). flat_map (λ p. period_row (period_point b p)) (span 0 (length xs))) e
          ∙ sym (flat_map_map (λ (row : List ℕ). row) period_row (period_points b) ∙ flat_map_map period_row (period_point b) (span 0 (length b.periods)))

-- ---- as the code is asked with them

period_wide : (p : PeriodPoint) → length (period_row p) ≡ 7
unfolding period_row
period_wide p =
    let earned = option_map bits p.earned in
    let actual = option_map bits p.actual in
    omega (arith, length-append (optional earned) (optional actual), optional_two earned, optional_two actual)

module _ {s : List ℕ} {opened : Opened} (o : IsOpened s opened) where
  pub rows_sized : Sized (period_points_rows (content s)) opened.ledger.periods.count 7
  unfolding period_points_rows period_points
  rows_sized =
      let b = content s in
      sized period_row 7 period_wide (period_points b) opened.ledger.periods.count
      (length-map (span 0 (length b.periods)) (period_point b) ∙ span_length 0 (length b.periods) ∙ periods_count o.plan o.ledger)

  -- the records of the book, by how many periods there are
  module _ {k : ℕ} (e : k ≡ opened.ledger.periods.count) where
    pub records_listed : (content s).records ≡ alike_in (layout.period_record k opened.plan.activities.count) s opened.ledger.records
    records_listed = rw e o.ledger.records

    pub records_ranged :
        Every (PeriodRecordInRange k opened.plan.activities.count) (alike_in (layout.period_record k opened.plan.activities.count) s opened.ledger.records)
    records_ranged = subst (Every (PeriodRecordInRange k opened.plan.activities.count)) records_listed (rw e (records_in_range o.plan o.ledger))

-- figures of a lent part of an array of zeros
pub zero_figures : (k n i : ℕ) → figure_of (take k (replicate n (pos 0))) i ≡ pos 0
zero_figures zero n i = refl
zero_figures (suc k) zero i = refl
zero_figures (suc k) (suc n) zero = refl
zero_figures (suc k) (suc n) (suc i) = zero_figures k n i
