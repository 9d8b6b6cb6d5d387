-- The months from the first to the last that has a point.
use Prim.Native.Nat.{ℕ, ◌+◌, ◌-◌, ◌≤◌, ◌<◌}
use mathlib.Core.Path.{◌≡◌, sym, ap, ap₂, ◌∙◌}
use mathlib.Core.Bool.{Bool, false, true≢false, ◌&&◌}
use mathlib.Core.List.{List, [], map, Memᴰ}
use native.Mathlib.Omega.{arith}
use native.Mathlib.Decide.{dec_lt}
use borrow.Author.Tests.{le-leb, leb-true, ne_eqb}
use lib.Dec.{eqb, leb}
use Rattle.integer.specs.Sums.{ints, total}
use Rattle.lists.specs.Lists.{any, span}
use Rattle.lists.proofs.Lists.{any_some, in_any, keep_in, in_keep, keep_none}
use Rattle.lists.proofs.Spans.{span_in_lem, in_span}
use Rattle.gregorian.proofs.Laws.{and_both}
use Rattle.months.specs.Months.{month_number, january2000}
use Rattle.months.proofs.Laws.{months_rise}
use Rattle.model.specs.Days.{dates_between}
use Rattle.model.specs.TwelveMonths.{Monthly, monthly, month_sum, is_spanned, months}
use Rattle.model.proofs.Rising.{keep_rises, rising_same, span_rises}
use Rattle.model.proofs.TwelveMonths.{no_months, no_sum}
use Rattle.bydate.specs.Pointed.{is_marked, sum_on, points_in}
use Rattle.twelve.specs.declared.Reach.{Reach}
use Rattle.twelve.specs.Parts.{monthly_in}
use Rattle.twelve.specs.Listed.{IsPoint, IsFirst, IsLast, AreListed, listed_from}
use Rattle.twelve.proofs.Points.{point_in_lem, in_point}

module _ {table : List ℕ} {reach : Reach} {first last : ℕ} (f : IsFirst table reach first) (l : IsLast table reach last) where
  -- each point is from the first one to the last one
  from_first : (date : ℕ) → IsPoint table reach date → first ≤ date
  from_first date p = go (dec_lt date first)
    where
      go : Dec (date < first) → first ≤ date
      go (yes h) = absurd (true≢false (sym p.here ∙ f.none date p.from h))
      go (no h) = omega arith

  to_last : (date : ℕ) → IsPoint table reach date → date ≤ last
  to_last date p = go (dec_lt last date)
    where
      go : Dec (last < date) → date ≤ last
      go (yes h) = absurd (true≢false (sym p.here ∙ l.none date h p.to))
      go (no h) = omega arith

  -- so is each month that something falls in
  falls_from : (x : Monthly) → Memᴰ x (monthly_in table reach) → (month_number first ≤ x.month) × (x.month ≤ month_number last)
  falls_from x m =
      let (d, p, e) = in_point table reach x m in
      (omega (arith, e, months_rise first d (from_first d p)), omega (arith, e, months_rise d last (to_last d p)))

  module _ (begins : IsPoint table reach first) (a b : ℕ) (from : january2000 + a ≡ month_number first) (to : january2000 + b ≡ month_number last) where
    pub months_order : a ≤ b
    months_order = omega (arith, from, to, months_rise first last (from_first last l.point))

    spanned_are : b < 1200 → months (monthly_in table reach) ≡ span (january2000 + a) (b + 1 - a)
    unfolding months is_spanned
    spanned_are most =
        let xs = monthly_in table reach in
        let before : ℕ → Monthly → Bool = λ m x. leb x.month m in
        let after : ℕ → Monthly → Bool = λ m x. leb m x.month in
        rising_same (months xs) (span (january2000 + a) (b + 1 - a)) (keep_rises (is_spanned xs) january2000 1200) (span_rises (january2000 + a) (b + 1 - a))
        (λ m k.
        let w = and_both (any (before m) xs) (any (after m) xs) (keep_in (is_spanned xs) m (span january2000 1200) k).1 in
        let (x, i, p) = any_some (before m) xs w.0 in
        let (y, j, q) = any_some (after m) xs w.1 in
        in_span (january2000 + a) (b + 1 - a) m (omega (arith, from, leb-true x.month m p, (falls_from x i).0)) (omega (arith, to, leb-true m y.month q, (falls_from y j).1)))
        (λ m k.
        let h = span_in_lem (january2000 + a) (b + 1 - a) m k in
        in_keep (is_spanned xs) m (span january2000 1200) (in_span january2000 1200 m (omega (arith, h.0)) (omega (arith, h.1, months_order)))
        (ap₂ ◌&&◌
        (in_any (before m) _ xs (point_in_lem table reach first begins) (le-leb (month_number first) m (omega (arith, from, h.0))))
        (in_any (after m) _ xs (point_in_lem table reach last l.point) (le-leb m (month_number last) (omega (arith, to, h.1, months_order))))))

    pub are_listed : b < 1200 → AreListed (monthly_in table reach) (listed_from a (b + 1 - a))
    unfolding month_sum total
    are_listed most = record {
      most = omega (arith, months_order);
      spanned = spanned_are most;
      starts = λ m h. ap (λ (l : List Monthly). total ints (map (λ (x : Monthly). x.amount) l)) (keep_none (λ (x : Monthly). eqb x.month m) (monthly_in table reach) (λ x k. ne_eqb x.month m (λ e. omega (arith, from, (falls_from x k).0))));
    }

-- without any point no month is listed
pub nothing_listed : AreListed [] (listed_from 0 0)
unfolding span
nothing_listed = record { most = omega arith; spanned = no_months; starts = λ m h. no_sum m }

pub none_listed : (table : List ℕ) (reach : Reach) → ((d : ℕ) → reach.from ≤ d → d ≤ reach.to → is_marked reach.base table d ≡ false) → AreListed (monthly_in table reach) (listed_from 0 0)
unfolding monthly points_in dates_between
none_listed table reach none_marked =
    let marked : ℕ → Bool = λ d. is_marked reach.base table d in
    let none : monthly_in table reach ≡ [] = ap (λ (ds : List ℕ). monthly (map (sum_on reach.base table) ds)) (keep_none marked (dates_between reach.from reach.to) (λ d m. let w = span_in_lem reach.from (reach.to + 1 - reach.from) d m in none_marked d w.0 (omega (arith, w.0, w.1)))) in
    rw none nothing_listed
