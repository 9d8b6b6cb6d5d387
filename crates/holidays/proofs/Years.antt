-- The holidays of a year: as the code gives them one by one, and that they are the days of the year that are holidays.
-- Assumes nothing.
use Rattle.std.specs.Prelude.{Option, Some, None}
use Prim.Native.Nat.{ℕ, ◌+◌, ◌<◌}
use mathlib.Core.Path.{◌≡◌, refl, sym, ap, ◌∙◌}
use mathlib.Core.Logic.{⊎_elim}
use mathlib.Core.Bool.{Bool, true, false, cond, ◌&&◌, or-true, false≢true}
use mathlib.Core.List.{◌∷◌, map}
use lib.Dec.{T, eqb, lit<}
use lib.IntN.{ℤ, pos, negsuc, ◌+ℤ◌, ◌-ℤ◌}
use lib.ListN.{get_or}
use lib.Signed.{◌≤ℤ◌, le_z, ≤ℤ_refl}
use mir.Syntax.{w32}
use mir.Val.{SFits}
use borrow.Author.Tests.{eqb-true}
use Rattle.integer.specs.Linear.{linear, sum, dif}
use Rattle.gregorian.specs.Calendar.{civil}
use Rattle.gregorian.proofs.Below.{Each, at_each}
use Rattle.gregorian.proofs.Laws.{and_both}
use Rattle.gregorian.proofs.Counts.{is_true}
use Rattle.dates.specs.Date.{dated, signed_year, day_count, is_day, from_ymd, date_of, ymd_of}
use Rattle.dates.proofs.Counts.{day_bounds}
use Rattle.dates.proofs.Laws.{date_of_day, day_of_ymd}
use Rattle.holidays.specs.declared.MonthDay.{MonthDay}
use Rattle.computus.specs.Easter.{easter_of}
use Rattle.holidays.specs.Holiday.{on, fixed_days, is_on, is_fixed, is_awareness, distances, same, is_movable, by_easter, is_holiday_on, is_holiday}
use Rattle.lists.specs.Lists.{any}
use Rattle.holidays.specs.Year.{day_in, awareness_in, moved, holidays_in}
use Rattle.lists.proofs.Search.{either, any_left, any_right, any_map, any_at}
use Rattle.computus.proofs.NearEaster.{near_easter}

pub self : (z : ℤ) → same z z ≡ true
unfolding same
self z = rw (is_true (le_z z z) (≤ℤ_refl z).le)

pub equal : (z k : ℤ) → same z k ≡ true → z ≡ k
unfolding same
equal z k e = let t = and_both (le_z z k) (le_z k z) e in omega linear

-- ---- one by one

pub fixed_at : (y : ℤ) (k : ℕ) → k < 8 → get_or (holidays_in y) k None ≡ day_in y (get_or fixed_days k (on 0 0))
unfolding holidays_in
fixed_at y =
    at_each (λ (k : ℕ). get_or (holidays_in y) k None ≡ day_in y (get_or fixed_days k (on 0 0))) 8
    (refl, (refl, (refl, (refl, (refl, (refl, (refl, (refl, tt))))))))

pub awareness_at : (y : ℤ) → get_or (holidays_in y) 8 None ≡ awareness_in y
unfolding holidays_in
awareness_at y = refl

pub movable_at : (y : ℤ) (k : ℕ) → k < 4 → get_or (holidays_in y) (k + 9) None ≡ moved (easter_of y) (get_or distances k (pos 0))
unfolding holidays_in
movable_at y =
    at_each (λ (k : ℕ). get_or (holidays_in y) (k + 9) None ≡ moved (easter_of y) (get_or distances k (pos 0))) 4
    (refl, (refl, (refl, (refl, tt))))

pub distances_fit : (k : ℕ) → k < 4 → SFits w32 (get_or distances k (pos 0))
distances_fit =
    at_each (λ (k : ℕ). SFits w32 (get_or distances k (pos 0))) 4
    (record { sfits = lit< tt }, (record { sfits = lit< tt }, (record { sfits = lit< tt }, (record { sfits = lit< tt }, tt))))

pub moved_fits : (e : ℤ) → is_day e ≡ true → (k : ℕ) → k < 4 → SFits w32 (e +ℤ get_or distances k (pos 0))
moved_fits e h =
    let b = day_bounds e h in
    at_each (λ (k : ℕ). SFits w32 (e +ℤ get_or distances k (pos 0))) 4
    (omega (linear, sum e (pos 60)), (omega (linear, sum e (negsuc 1)), (omega (linear, sum e (negsuc 46)), (omega (linear, sum e (negsuc 47)), tt))))

-- ---- every holiday is among them

-- the day is z
abbrev pub falls : ℤ → Option ℤ → Bool
falls z None = false
falls z (Some e) = same z e

module _ (z y : ℤ) (m d : ℕ) (date : ymd_of z ≡ Some (dated y m d)) where
  on_date : (x : MonthDay) → is_on m d x ≡ true → falls z (day_in y x) ≡ true
  on_date x e =
      let t = and_both (eqb x.month m) (eqb x.day d) e in
      rw (eqb-true x.month m t.0, eqb-true x.day d t.1, day_of_ymd z y m d date) (self z)

  by_distance : (s : Option ℤ) → by_easter s z ≡ true → any (falls z) (map (moved s) distances) ≡ true
  unfolding by_easter is_movable
  by_distance None e = absurd (false≢true e)
  by_distance (Some e) h = any_map (falls z) (same (z -ℤ e)) (moved (Some e)) there distances h
    where
      there : (k : ℤ) → same (z -ℤ e) k ≡ true → same z (e +ℤ k) ≡ true
      there k q = let p : e +ℤ k ≡ z = omega (linear, equal (z -ℤ e) k q, sum e k, dif z e) in rw p (self z)

  pub listed : is_holiday z ≡ true → any (falls z) (holidays_in y) ≡ true
  unfolding is_holiday is_holiday_on is_fixed is_awareness awareness_in holidays_in any
  listed e =
      let h : is_holiday_on z (Some (dated y m d)) ≡ true = rw date at e in
      let first = map (day_in y) fixed_days in
      let rest = awareness_in y ∷ map (moved (easter_of y)) distances in
      ⊎_elim
      (λ f. any_left (falls z) first rest (any_map (falls z) (is_on m d) (day_in y) on_date fixed_days f))
      (λ f. any_right (falls z) first rest (⊎_elim (λ a. rw (awareness a)) by_easter_lem (either (is_awareness y m d) (by_easter (easter_of y) z) f)))
      (either (is_fixed m d) _ h)
    where
      by_easter_lem : by_easter (easter_of y) z ≡ true → any (falls z) (awareness_in y ∷ map (moved (easter_of y)) distances) ≡ true
      by_easter_lem b = rw (by_distance (easter_of y) b) (or-true (falls z (awareness_in y)))

      awareness : is_awareness y m d ≡ true → falls z (awareness_in y) ≡ true
      awareness a =
          let r = and_both (le_z (pos 2024) y) (eqb m 11 && eqb d 20) a in
          let t = and_both (eqb m 11) (eqb d 20) r.1 in
          rw (r.0, ← eqb-true m 11 t.0, ← eqb-true d 20 t.1) (ap (falls z) (day_of_ymd z y m d date) ∙ self z)

-- ---- they are all holidays

falls_is : (z : ℤ) (x : Option ℤ) → falls z x ≡ true → x ≡ Some z
falls_is z None h = absurd (false≢true h)
falls_is z (Some e) h = ap Some (sym (equal z e h))

module _ (z y : ℤ) where
  fixed_is : (m d : ℕ) → is_fixed m d ≡ true → falls z (from_ymd y m d) ≡ true → is_holiday z ≡ true
  unfolding is_holiday is_holiday_on
  fixed_is m d f h = rw (date_of_day y m d z (falls_is z (from_ymd y m d) h), f)

  awareness_is : falls z (awareness_in y) ≡ true → is_holiday z ≡ true
  unfolding is_holiday is_holiday_on is_awareness awareness_in
  awareness_is = go (le_z (pos 2024) y) refl
    where
      go : (b : Bool) → le_z (pos 2024) y ≡ b → falls z (cond b (from_ymd y 11 20) None) ≡ true → is_holiday z ≡ true
      go false e h = absurd (false≢true h)
      go true e h = rw (date_of_day y 11 20 z (falls_is z (from_ymd y 11 20) h), e) (or-true (is_fixed 11 20))

  movable_is : (k : ℤ) → is_movable k ≡ true → negsuc 47 ≤ℤ k → k ≤ℤ pos 60 → falls z (moved (easter_of y) k) ≡ true → is_holiday z ≡ true
  unfolding is_holiday is_holiday_on ymd_of by_easter
  movable_is k f lo hi = go (easter_of y) refl
    where
      go : (s : Option ℤ) → easter_of y ≡ s → falls z (moved s k) ≡ true → is_holiday z ≡ true
      go None q h = absurd (false≢true h)
      go (Some e) q h =
          let i : e +ℤ k ≡ z = sym (equal z (e +ℤ k) h) in
          let n = near_easter y e k q lo hi in
          let r : is_day z ≡ true = rw i at n.in_range_lem in
          let t : signed_year (civil (day_count z)).year ≡ y = rw i at n.year in
          let j : z -ℤ e ≡ k = omega (linear, sum e k, dif z e) in
          let c = civil (day_count z) in
          rw (r, t, q, j, f, or-true (is_awareness y c.month c.day)) (or-true (is_fixed c.month c.day))

  pub holiday_at : (k : ℕ) → k < 13 → falls z (get_or (holidays_in y) k None) ≡ true → is_holiday z ≡ true
  unfolding holidays_in is_fixed is_movable any same
  holiday_at =
      at_each (λ (k : ℕ). falls z (get_or (holidays_in y) k None) ≡ true → is_holiday z ≡ true) 13
      (near (pos 60) refl tt tt, (near (negsuc 1) refl tt tt, (near (negsuc 46) refl tt tt, (near (negsuc 47) refl tt tt, (awareness_is, fixed)))))
    where
      near : (k : ℤ) → is_movable k ≡ true → T (le_z (negsuc 47) k) → T (le_z k (pos 60)) → falls z (moved (easter_of y) k) ≡ true → is_holiday z ≡ true
      near k f lo hi = movable_is k f (record { le = lo }) (record { le = hi })

      fixed : Each (λ (k : ℕ). falls z (get_or (holidays_in y) k None) ≡ true → is_holiday z ≡ true) 8
      fixed =
          (fixed_is 12 25 refl, (fixed_is 11 15 refl, (fixed_is 11 2 refl, (fixed_is 10 12 refl, (fixed_is 9 7 refl, (fixed_is 5 1 refl, (fixed_is 4 21 refl, (fixed_is 1 1 refl, tt))))))))

  pub is_holiday_lem : any (falls z) (holidays_in y) ≡ true → is_holiday z ≡ true
  unfolding holidays_in
  is_holiday_lem = any_at (falls z) None (holidays_in y) holiday_at

pub holiday_day : (z : ℤ) → is_holiday z ≡ true → is_day z ≡ true
unfolding is_holiday is_holiday_on ymd_of
holiday_day z = go (is_day z)
  where
    go : (b : Bool) → is_holiday_on z (cond b (Some (date_of (civil (day_count z)))) None) ≡ true → b ≡ true
    go true h = refl
    go false h = absurd (false≢true h)
