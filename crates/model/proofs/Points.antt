-- The points by date: one for each date on which something falls, rising; and those between two dates are those of all.
use mathlib.Core.Path.{◌≡◌, refl, sym, ap, ◌∙◌}
use mathlib.Core.Logic.{◌↔◌}
use mathlib.Core.Bool.{Bool, true, false, true≢false, ◌&&◌, ◌||◌}
use mathlib.Core.List.{List, [], ◌∷◌, map, Memᴰ}
use Prim.Native.Nat.{ℕ, ◌+◌, ◌-◌, ◌≤◌, ◌<◌, max}
use native.Mathlib.Omega.{arith}
use borrow.Author.Tests.{eqb-true, leb-true, le-leb}
use lib.Dec.{eqb, leb}
use Rattle.gregorian.proofs.Laws.{and_both}
use Rattle.lists.specs.Lists.{any, span, keep}
use Rattle.format.specs.Book.{Book}
use Rattle.model.specs.Days.{dates_between}
use Rattle.model.specs.Amounts.{Dated, is_between, is_charged, point_on, points_between, last_day, points}
use Rattle.model.specs.Costs.{budget_by_day, spending, spending_between}
use Rattle.lists.proofs.Lists.{keep_map, keep_keep}
use Rattle.model.proofs.Rising.{keep_rises, rising_same}
use Rattle.model.proofs.Days.{kept_between, between_kept}

-- nothing falls after the last day
not_after : (xs : List Dated) (d : ℕ) → is_charged xs d ≡ true → d ≤ last_day xs
unfolding is_charged last_day any
not_after [] d e = absurd (true≢false (sym e))
not_after (x ∷ xs) d e = go (eqb x.day d) refl e (not_after xs d)
  where
    go : (b : Bool) → eqb x.day d ≡ b → (b || is_charged xs d) ≡ true → (is_charged xs d ≡ true → d ≤ last_day xs) → d ≤ max x.day (last_day xs)
    go true s e ih = omega (arith, eqb-true x.day d s)
    go false s e ih = omega (arith, ih e)

module _ (xs : List Dated) where
  -- the dates of the points
  days_of_points : (ds : List ℕ) → map (λ (x : Dated). x.day) (map (point_on xs) ds) ≡ ds
  unfolding point_on
  days_of_points [] = refl
  days_of_points (d ∷ ds) = ap (λ (l : List ℕ). d ∷ l) (days_of_points ds)

  pub point_dates : (from to : ℕ) → map (λ (x : Dated). x.day) (points_between xs from to) ≡ keep (is_charged xs) (dates_between from to)
  unfolding points_between
  point_dates from to = days_of_points (keep (is_charged xs) (dates_between from to))

  -- something falls on a date just where it has a point
  pub all_dates : (d : ℕ) → Memᴰ d (map (λ (x : Dated). x.day) (points xs)) ↔ (is_charged xs d ≡ true)
  unfolding points
  all_dates d = rw (point_dates 0 (last_day xs)) (
    λ m. (kept_between (is_charged xs) 0 (last_day xs) d m).2,
    λ e. between_kept (is_charged xs) 0 (last_day xs) d (omega arith) (not_after xs d e) e,
  )

  pub points_within : (from to : ℕ) → points_between xs from to ≡ keep (is_between from to) (points xs)
  unfolding points_between points point_on dates_between
  points_within from to =
      let dates = dates_between 0 (last_day xs) in
      let inside : ℕ → Bool = λ d. leb from d && leb d to in
      let charged : ℕ → Bool = is_charged xs in
      ap (map (point_on xs))
      (rising_same (keep charged (dates_between from to)) (keep (λ d. charged d && inside d) dates)
      (keep_rises charged from (to + 1 - from)) (keep_rises (λ d. charged d && inside d) 0 (last_day xs + 1 - 0))
      (λ d m. into d (kept_between charged from to d m)) (λ d m. back d (kept_between (λ e. charged e && inside e) 0 (last_day xs) d m).2)
      ∙ sym (keep_keep charged inside dates))
      ∙ sym (keep_map (is_between from to) (point_on xs) (keep charged dates))
    where
      into : (d : ℕ) → (from ≤ d) × (d ≤ to) × (is_charged xs d ≡ true) → Memᴰ d (keep (λ e. is_charged xs e && (leb from e && leb e to)) (dates_between 0 (last_day xs)))
      into d (h, l, e) =
          between_kept (λ e. is_charged xs e && (leb from e && leb e to)) 0 (last_day xs) d (omega arith) (not_after xs d e) (rw (e, le-leb from d h, le-leb d to l))

      back : (d : ℕ) → (is_charged xs d && (leb from d && leb d to)) ≡ true → Memᴰ d (keep (is_charged xs) (dates_between from to))
      back d e =
          let c = and_both (is_charged xs d) (leb from d && leb d to) e in
          let b = and_both (leb from d) (leb d to) c.1 in
          between_kept (is_charged xs) from to d (leb-true from d b.0) (leb-true d to b.1) c.0

  pub points_none : (from to : ℕ) → to < from → points_between xs from to ≡ []
  unfolding points_between dates_between span keep
  points_none from to h = let e : to + 1 - from ≡ 0 = omega arith in ap (λ (n : ℕ). map (point_on xs) (keep (is_charged xs) (span from n))) e

-- the spending asked between two dates is the spending there
pub spending_within : (book : Book) (from to : ℕ) → spending_between book from to ≡ keep (is_between from to) (spending book)
unfolding spending_between spending
spending_within book from to = points_within (budget_by_day book) from to
