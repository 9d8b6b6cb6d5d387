-- What falls in the months is of the dates that have a point, and a month's sum is that of its dates.
use Prim.Native.Nat.{ℕ, ◌+◌, ◌-◌, min, max}
use mathlib.Core.Path.{◌≡◌, refl, sym, ap, ap₂, ◌∙◌}
use mathlib.Core.Bool.{Bool, ◌&&◌}
use mathlib.Core.List.Memᴰ
use mathlib.Core.List.{List, [], ◌∷◌, map, Memᴰ}
use native.Mathlib.Omega.{arith}
use borrow.Author.Tests.{eq-eqb, eqb-true}
use lib.Dec.{eqb}
use lib.IntN.{ℤ}
use Rattle.integer.specs.Sums.{ints, total}
use Rattle.lists.specs.Lists.{keep}
use Rattle.lists.proofs.Lists.{keep_keep, keep_map}
use Rattle.gregorian.proofs.Laws.{and_both}
use Rattle.months.specs.Months.{month_number, first_day}
use Rattle.months.proofs.Laws.{month_within, month_is}
use Rattle.model.specs.Days.{dates_between}
use Rattle.model.specs.Amounts.{Dated, amounts}
use Rattle.model.specs.TwelveMonths.{Monthly, falling, monthly, month_sum}
use Rattle.model.proofs.Days.{kept_between, between_kept}
use Rattle.model.proofs.Rising.{keep_rises, rising_same}
use Rattle.bydate.specs.Pointed.{is_marked, sum_on, points_in}
use Rattle.twelve.specs.declared.Reach.{Reach}
use Rattle.twelve.specs.Parts.{exact_sum, monthly_in}
use Rattle.twelve.specs.Listed.{IsPoint}

-- a point in its month
abbrev in_month : Dated → Monthly
in_month x = falling (month_number x.day) x.amount

module _ (table : List ℕ) (reach : Reach) where
  abbrev marked : ℕ → Bool
  marked date = is_marked reach.base table date

  pub point_in_lem : (date : ℕ) → IsPoint table reach date → Memᴰ (in_month (sum_on reach.base table date)) (monthly_in table reach)
  unfolding monthly points_in
  point_in_lem date p = Memᴰ.map in_month (Memᴰ.map (sum_on reach.base table) (between_kept marked reach.from reach.to date p.from p.to p.here))

  pub in_point : (x : Monthly) → Memᴰ x (monthly_in table reach) → (date : ℕ) × IsPoint table reach date × (x.month ≡ month_number date)
  unfolding monthly points_in
  in_point x m =
      let dates = keep marked (dates_between reach.from reach.to) in
      let (y, k, q) = Memᴰ.of_map in_month (map (sum_on reach.base table) dates) m in
      let (d, r, p) = Memᴰ.of_map (sum_on reach.base table) dates k in
      let w = kept_between marked reach.from reach.to d r in
      (d, record { from = w.0; to = w.1; here = w.2 }, sym (ap (λ (u : Monthly). u.month) q) ∙ sym (ap (λ (u : Dated). month_number u.day) p))

  -- ---- the dates of a month

  module _ (m first last : ℕ) (f : first ≡ max reach.from (first_day m)) (l : last + 1 ≡ min (reach.to + 1) (first_day (m + 1))) where
    abbrev is_of : ℕ → Bool
    is_of date = eqb (month_number date) m

    dates_of_lem : keep is_of (keep marked (dates_between reach.from reach.to)) ≡ keep marked (dates_between first last)
    unfolding dates_between
    dates_of_lem =
        let both : ℕ → Bool = λ d. marked d && is_of d in
        keep_keep marked is_of (dates_between reach.from reach.to)
        ∙ rising_same (keep both (dates_between reach.from reach.to)) (keep marked (dates_between first last))
        (keep_rises both reach.from (reach.to + 1 - reach.from)) (keep_rises marked first (last + 1 - first))
        (λ d r.
        let k = kept_between both reach.from reach.to d r in
        let b = and_both (marked d) (is_of d) k.2 in
        let w = month_within d in
        let e = eqb-true (month_number d) m b.1 in
        between_kept marked first last d (omega (arith, ap first_day e, w.0)) (omega (arith, ap (λ (n : ℕ). first_day (n + 1)) e, w.1)) b.0)
        (λ d r.
        let k = kept_between marked first last d r in
        between_kept both reach.from reach.to d (omega arith) (omega arith) (ap₂ ◌&&◌ k.2 (eq-eqb (month_number d) m (month_is m d (omega arith) (omega arith)))))

    amounts_of : (ds : List ℕ) → map (λ (x : Monthly). x.amount) (map in_month (map (sum_on reach.base table) ds)) ≡ amounts (map (sum_on reach.base table) ds)
    amounts_of [] = refl
    amounts_of (d ∷ ds) = ap (λ (l : List ℤ). (sum_on reach.base table d).amount ∷ l) (amounts_of ds)

    pub month_sum_lem : exact_sum (points_in reach.base table first last) ≡ month_sum (monthly_in table reach) m
    unfolding month_sum monthly points_in
    month_sum_lem =
        let dates = keep marked (dates_between reach.from reach.to) in
        let at = sum_on reach.base table in
        let here : Monthly → Bool = λ x. eqb x.month m in
        sym
        (ap (λ (l : List Monthly). total ints (map (λ (x : Monthly). x.amount) l))
        (keep_map here in_month (map at dates) ∙ ap (map in_month) (keep_map (λ x. here (in_month x)) at dates))
        ∙ ap (total ints) (amounts_of (keep is_of dates))
        ∙ ap (λ (ds : List ℕ). exact_sum (map at ds)) dates_of_lem)
