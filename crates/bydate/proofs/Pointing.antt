-- The points of what is laid onto a table, and the points between two dates where nothing falls outside a stretch.
use Prim.Native.Nat.{ℕ, ◌+◌, ◌-◌, ◌≤◌, min, max}
use mathlib.Core.Path.{◌≡◌, refl, ap, ◌∙◌}
use mathlib.Core.Bool.{Bool, true, false}
use mathlib.Core.List.{List, [], map}
use native.Mathlib.Omega.{arith}
use lib.Dec.{eqb}
use lib.ListN.{replicate}
use Rattle.money.specs.Words.{of_bits}
use Rattle.money.proofs.Bits.{there_and_back}
use Rattle.calendar.specs.Tables.{one}
use Rattle.lists.specs.Lists.{keep}
use Rattle.model.specs.Days.{dates_between}
use Rattle.model.specs.Amounts.{Dated, on, is_dated, is_charged, point_on, points_between}
use Rattle.model.proofs.Rising.{keep_rises, rising_same}
use Rattle.model.proofs.Days.{kept_between, between_kept}
use Rattle.laid.specs.Laid.{Holds, Laid}
use Rattle.bydate.specs.Pointed.{is_marked, sum_on, points_in, Reaches}
use Rattle.laid.proofs.Dates.{keep_alike, map_alike}
use Rattle.laid.proofs.Laying.{sum_fits, holds_none}

pub is_one : (b : Bool) → eqb (one b) 1 ≡ b
is_one true = refl
is_one false = refl

-- the points between two dates are those of the amounts
pub points_held : {base from to : ℕ} {xs : List Dated} {table : List ℕ} → Holds base xs table → Reaches base table from to → points_in base table from to ≡ points_between xs from to
unfolding points_in points_between point_on
points_held {base} {from} {to} {xs} {table} h r =
    ap (map (sum_on base table)) (keep_alike (is_marked base table) (is_charged xs) from to (λ d k l. ap (λ (n : ℕ). eqb n 1) (h.mark d (omega (arith, r.start)) (omega (arith, r.start, r.reach))) ∙ is_one (is_charged xs d)))
    ∙ map_alike (sum_on base table) (point_on xs) (is_charged xs) from to
    (λ d k l. ap (on d) (ap of_bits (h.sum d (omega (arith, r.start)) (omega (arith, r.start, r.reach))) ∙ there_and_back _ (sum_fits (keep (is_dated d) xs))))

-- a table of n numbers that was empty before
pub points_laid : (n : ℕ) {base from to : ℕ} {xs : List Dated} {table : List ℕ} → Laid base xs (replicate n 0) table → Reaches base table from to → points_in base table from to ≡ points_between xs from to
points_laid n {base} l r = points_held (l.holds [] (holds_none base n)) r

-- where nothing falls before a date or after another
pub points_narrow : (xs : List Dated) (from to base end : ℕ) → ((d : ℕ) → is_charged xs d ≡ true → (base ≤ d) × (d ≤ end)) → points_between xs (max from base) (min to end) ≡ points_between xs from to
unfolding points_between dates_between
points_narrow xs from to base end h =
    let lo = max from base in
    let hi = min to end in
    let p : ℕ → Bool = is_charged xs in
    ap (map (point_on xs))
    (rising_same (keep p (dates_between lo hi)) (keep p (dates_between from to)) (keep_rises p lo (hi + 1 - lo)) (keep_rises p from (to + 1 - from))
    (λ d m. let k = kept_between p lo hi d m in between_kept p from to d (omega (arith, k.0)) (omega (arith, k.1)) k.2)
    (λ d m. let k = kept_between p from to d m in let w = h d k.2 in between_kept p lo hi d (omega (arith, k.0, w.0)) (omega (arith, k.1, w.1)) k.2))
