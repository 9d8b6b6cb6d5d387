-- The rows of the months: the sum of a month's points, and the months from a date on.
use Prim.Native.Nat.{ℕ, ◌+◌, ◌-◌, ◌≤◌, ◌<◌, min}
use mathlib.Core.Path.{◌≡◌, refl, sym, ap, ap₂, ◌∙◌}
use mathlib.Core.Bool.{true, false}
use mathlib.Core.List.Memᴰ
use mathlib.Core.List.{List, [], ◌∷◌, ◌++◌, map, map-append, Memᴰ}
use native.Mathlib.Omega.{arith}
use lib.Dec.{ltb}
use lib.IntN.{ℤ, pos, ◌+ℤ◌}
use lib.ListN.{length, length-map}
use mir.Syntax.{w64}
use Rattle.integer.specs.Clamp.{clamp}
use Rattle.integer.specs.Folds.{saturated}
use Rattle.lists.specs.Lists.{any, span, cons_if, keep}
use Rattle.money.specs.Words.{of_bits}
use Rattle.model.specs.Days.{dates_between}
use Rattle.model.specs.Amounts.{Dated, on, amounts, saturated_sum, is_charged, last_day, points_between, points}
use Rattle.model.specs.Months.{month_start, in_month}
use Rattle.model.proofs.Days.{kept_between}
use Rattle.laid.specs.Laid.{sum_of}
use Rattle.bydate.specs.Pointed.{is_marked, sum_on, points_in}
use Rattle.laid.proofs.Dates.{parted}
use Rattle.bydate.proofs.Writing.{points_next, points_end}
use Rattle.bydate.specs.Months.{by_month}
use Rattle.bydate.proofs.MonthDays.{month_end, in_month_lem, same_month, later_month}
use Rattle.bydate.proofs.Grouping.{points_lead}

pub no_months : by_month [] ≡ []
unfolding by_month points points_between last_day dates_between span keep is_charged any
no_months = refl

-- the month of an amount is not in its sum
in_month_sum : (xs : List Dated) → saturated_sum (map in_month xs) ≡ saturated_sum xs
unfolding saturated_sum
in_month_sum xs = ap (saturated w64 (pos 0)) (same xs)
  where
    same : (xs : List Dated) → amounts (map in_month xs) ≡ amounts xs
    same [] = refl
    same (x ∷ xs) = ap (λ (l : List ℤ). x.amount ∷ l) (same xs)

module _ (base : ℕ) (table : List ℕ) where
  -- ---- the sum of a span

  -- what the loop keeps: with the points that are left all are counted and added
  pub record Adding (first last date n : ℕ) (total : ℤ) : Type 0 where
    pub begun : first ≤ date
    pub most : n + first ≤ date
    pub count : n + length (points_in base table date last) ≡ length (points_in base table first last)
    pub sum : saturated w64 total (amounts (points_in base table date last)) ≡ saturated_sum (points_in base table first last)

  pub adding_none : (first last : ℕ) → Adding first last first 0 (pos 0)
  unfolding saturated_sum
  adding_none first last = record { begun = omega arith; most = omega arith; count = omega arith; sum = refl }

  module _ {first last date n : ℕ} {total : ℤ} (w : Adding first last date n total) where
    pub adding_past : date ≤ last → is_marked base table date ≡ false → Adding first last (date + 1) n total
    adding_past h e =
        let next = points_next base last table date false h (sym e) in
        record {
          begun = omega (arith, w.begun);
          most = omega (arith, w.most);
          count = sym (ap (λ (xs : List Dated). n + length xs) next) ∙ w.count;
          sum = sym (ap (λ (xs : List Dated). saturated w64 total (amounts xs)) next) ∙ w.sum;
        }

    pub adding_more : date ≤ last → is_marked base table date ≡ true → {more : ℤ} → more ≡ clamp w64 (total +ℤ of_bits (sum_of base table date)) → Adding first last (date + 1) (n + 1) more
    unfolding saturated
    adding_more h e {more} q =
        let next = points_next base last table date true h (sym e) in
        record {
          begun = omega (arith, w.begun);
          most = omega (arith, w.most);
          count = omega (arith, w.count, ap length next);
          sum = ap (λ (z : ℤ). saturated w64 z (amounts (points_in base table (date + 1) last))) q ∙ sym (ap (λ (xs : List Dated). saturated w64 total (amounts xs)) next) ∙ w.sum;
        }

    pub adding_count : last < date → n ≡ length (points_in base table first last)
    adding_count h = omega (arith, w.count, ap length (points_end base last table date h))

    pub adding_sum : last < date → total ≡ saturated_sum (points_in base table first last)
    unfolding saturated
    adding_sum h = sym (ap (λ (xs : List Dated). saturated w64 total (amounts xs)) (points_end base last table date h)) ∙ w.sum

  -- ---- the months from a date on

  module _ (to : ℕ) where
    abbrev pub months_from : ℕ → List Dated
    months_from date = by_month (points_in base table date to)

    -- the first, if a date of it is marked, and those after it
    pub month_next : (date last : ℕ) → date ≤ to → last ≡ min to (month_end date)
        → months_from date ≡ cons_if (ltb 0 (length (points_in base table date last))) (on (month_start date) (saturated_sum (points_in base table date last))) [] ++ months_from (last + 1)
    unfolding by_month points_in
    month_next date last h e =
        let front = keep (is_marked base table) (dates_between date last) in
        let rest = keep (is_marked base table) (dates_between (last + 1) to) in
        let xs = map in_month (map (sum_on base table) front) in
        let ys = map in_month (map (sum_on base table) rest) in
        let back : last + 1 - 1 ≡ last = omega arith in
        ap (λ (ds : List ℕ). points (map in_month (map (sum_on base table) ds)))
        (parted (is_marked base table) date (last + 1) to (omega (arith, in_month_lem date)) (omega arith) ∙ ap (λ (k : ℕ). keep (is_marked base table) (dates_between date k) ++ rest) back)
        ∙ ap (λ (l : List Dated). points (map in_month l)) (map-append (sum_on base table) front rest)
        ∙ ap points (map-append in_month (map (sum_on base table) front) (map (sum_on base table) rest))
        ∙ points_lead (month_start date) xs ys here later
        ∙ ap₂ (λ (n : ℕ) (z : ℤ). cons_if (ltb 0 n) (on (month_start date) z) [] ++ points ys)
        (length-map (map (sum_on base table) front) in_month)
        (in_month_sum (map (sum_on base table) front))
      where
        -- a point of a span is of one of its dates
        of_date : (from end : ℕ) (y : Dated) → Memᴰ y (map in_month (map (sum_on base table) (keep (is_marked base table) (dates_between from end)))) → (d : ℕ) × (from ≤ d) × (d ≤ end) × (y.day ≡ month_start d)
        of_date from end y m =
            let (x, k, q) = Memᴰ.of_map in_month (map (sum_on base table) (keep (is_marked base table) (dates_between from end))) m in
            let (d, r, p) = Memᴰ.of_map (sum_on base table) (keep (is_marked base table) (dates_between from end)) k in
            let w = kept_between (is_marked base table) from end d r in
            (d, w.0, w.1, sym (ap (λ (u : Dated). u.day) q) ∙ sym (ap (λ (u : Dated). month_start u.day) p))

        here : (y : Dated) → Memᴰ y (map in_month (map (sum_on base table) (keep (is_marked base table) (dates_between date last)))) → y.day ≡ month_start date
        here y m = let (d, k, l, q) = of_date date last y m in q ∙ same_month date d k (omega arith)

        later : (y : Dated) → Memᴰ y (map in_month (map (sum_on base table) (keep (is_marked base table) (dates_between (last + 1) to)))) → month_start date < y.day
        later y m = let (d, k, l, q) = of_date (last + 1) to y m in omega (arith, q, later_month date d (omega arith))

    pub months_end : (date : ℕ) → to < date → months_from date ≡ []
    months_end date h = ap by_month (points_end base to table date h) ∙ no_months
