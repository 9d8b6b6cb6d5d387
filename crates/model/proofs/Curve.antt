-- Amounts by date and their running total. Short of saturation, the last figure up to a date is the exact sum of all that falls up to it.
use Prim.Native.Nat.{ℕ, ◌+◌, ◌-◌, ◌≤◌, ◌<◌, zero-le}
use mathlib.Core.Path.{◌≡◌, refl, sym, ap, ap₂, ◌∙◌, subst}
use mathlib.Core.Logic.{⊎_elim}
use mathlib.Core.Bool.{Bool, true, false, cond, ◌&&◌, and-false}
use mathlib.Core.List.Memᴰ
use mathlib.Core.List.{List, [], ◌∷◌, map, foldl, map-map, Memᴰ}
use native.Mathlib.Omega.{arith}
use native.Mathlib.Decide.{dec_lt}
use borrow.Author.Tests.{leb-true, leb-false, le-leb, lt-leb, lt-ltb, le-ltb}
use lib.Dec.{leb, ltb}
use lib.IntN.{ℤ, pos, nat_abs, ◌+ℤ◌, +ℤ_assoc, +ℤ_idl, +ℤ_idr}
use mir.Syntax.{w64}
use mir.Val.{SFits}
use Rattle.integer.specs.Clamp.{most, clamp, clamp_small, clamp_fits}
use Rattle.integer.specs.Sums.{ints, nats, total, sum_mono, abs_plus}
use Rattle.integer.specs.Folds.{saturated, magnitudes, exact}
use Rattle.format.specs.Book.{Book}
use Rattle.format.specs.InRange.{Rising}
use Rattle.lists.specs.Lists.{cons_if, keep}
use Rattle.model.specs.Days.{dates_between}
use Rattle.model.specs.Amounts.{Dated, on, amounts, saturated_sum, is_dated, is_between, is_charged, point_on, points_between, last_day, points}
use Rattle.model.specs.Planned.{is_up_to, planned_by_day, running, planned_curve, planned_curve_between}
use Rattle.model.specs.Demand.{last_figure}
use Rattle.lists.proofs.Lists.{keep_in, keep_none, keep_same, keep_unless, map_kept}
use Rattle.model.proofs.Rising.{keep_rises, rest_rises, least}
use Rattle.model.proofs.Points.{point_dates, all_dates, points_within}
use Rattle.model.proofs.Totals.{total_kept, total_by, total_span, magnitudes_total, abs_total, magnitudes_kept}

abbrev pub days : List Dated → List ℕ
days xs = map (λ (x : Dated). x.day) xs

-- a running total has the days of its points
pub running_days : (s : ℤ) (xs : List Dated) → days (running s xs) ≡ days xs
unfolding running
running_days s [] = refl
running_days s (x ∷ xs) = ap (λ (l : List ℕ). x.day ∷ l) (running_days (clamp w64 (s +ℤ x.amount)) xs)

-- and figures of 64 bits
running_fits : (s : ℤ) (xs : List Dated) (y : Dated) → Memᴰ y (running s xs) → SFits w64 y.amount
unfolding running
running_fits s [] y m = absurd (Memᴰ.not-nil m)
running_fits s (x ∷ xs) y m = ⊎_elim (λ e. rw e (clamp_fits w64 (s +ℤ x.amount))) (λ r. running_fits (clamp w64 (s +ℤ x.amount)) xs y r) (Memᴰ.cases_cons m)

pub curve_fits : (book : Book) (from to : ℕ) (y : Dated) → Memᴰ y (planned_curve_between book from to) → SFits w64 y.amount
unfolding planned_curve_between planned_curve
curve_fits book from to y m = running_fits (pos 0) (points (planned_by_day book)) y (keep_in (is_between from to) y (planned_curve book) m).0

-- ---- the last figure up to a date, from s on
module _ (d : ℕ) where
  abbrev last_from : ℤ → List Dated → ℤ
  last_from s xs = foldl (λ (figure : ℤ) (x : Dated). cond (leb x.day d) x.amount figure) s xs

  -- what is later than the date does not matter
  last_none : (s : ℤ) (xs : List Dated) → ((t : ℕ) → Memᴰ t (days xs) → d < t) → last_from s xs ≡ s
  last_none s [] h = refl
  last_none s (x ∷ xs) h =
      ap (λ (b : Bool). last_from (cond b x.amount s) xs) (lt-leb x.day d (h x.day (Memᴰ.head refl)))
      ∙ last_none s xs (λ t m. h t (Memᴰ.tail m))

  last_between : (from to : ℕ) → d ≤ to → (s : ℤ) (xs : List Dated) → ((t : ℕ) → Memᴰ t (days xs) → from ≤ t) → last_from s (keep (is_between from to) xs) ≡ last_from s xs
  unfolding keep
  last_between from to l s [] h = refl
  last_between from to l s (x ∷ xs) h = go (leb x.day d) refl (λ s. last_between from to l s xs (λ t m. h t (Memᴰ.tail m)))
    where
      go : (b : Bool) → leb x.day d ≡ b → ((s : ℤ) → last_from s (keep (is_between from to) xs) ≡ last_from s xs) → last_from s (cons_if (is_between from to x) x (keep (is_between from to) xs)) ≡ last_from (cond b x.amount s) xs
      go true e ih =
          ap (λ (b : Bool). last_from s (cons_if b x (keep (is_between from to) xs)))
          (ap₂ ◌&&◌ (le-leb from x.day (h x.day (Memᴰ.head refl))) (le-leb x.day to (omega (arith, leb-true x.day d e))))
          ∙ ap (λ (b : Bool). last_from (cond b x.amount s) (keep (is_between from to) xs)) e
          ∙ ih x.amount
      go false e ih = either (is_between from to x)
        where
          either : (b : Bool) → last_from s (cons_if b x (keep (is_between from to) xs)) ≡ last_from s xs
          either true = ap (λ (b : Bool). last_from (cond b x.amount s) (keep (is_between from to) xs)) e ∙ ih s
          either false = ih s

  -- ---- of a running total
  last_running : (s : ℤ) (xs : List Dated) → Rising (days xs) → nat_abs s + magnitudes (amounts xs) ≤ most w64 → last_from s (running s xs) ≡ s +ℤ total ints (amounts (keep (is_up_to d) xs))
  unfolding running keep total magnitudes
  last_running s [] r h = sym (+ℤ_idr s)
  last_running s (x ∷ xs) r h =
      go (leb x.day d) refl (last_running (s +ℤ x.amount) xs (rest_rises x.day (days xs) r) (omega (arith, abs_plus s x.amount)))
    where
      next : clamp w64 (s +ℤ x.amount) ≡ s +ℤ x.amount
      next = clamp_small w64 (s +ℤ x.amount) (omega (arith, abs_plus s x.amount))

      after : leb x.day d ≡ false → (t : ℕ) → Memᴰ t (days xs) → d < t
      after e t m = omega (arith, leb-false x.day d e, least x.day (days xs) r t m)

      go : (b : Bool) → leb x.day d ≡ b → last_from (s +ℤ x.amount) (running (s +ℤ x.amount) xs) ≡ (s +ℤ x.amount) +ℤ total ints (amounts (keep (is_up_to d) xs))
          → last_from (cond b (clamp w64 (s +ℤ x.amount)) s) (running (clamp w64 (s +ℤ x.amount)) xs) ≡ s +ℤ total ints (amounts (cons_if b x (keep (is_up_to d) xs)))
      go true e ih = ap (λ (z : ℤ). last_from z (running z xs)) next ∙ ih ∙ +ℤ_assoc s x.amount (total ints (amounts (keep (is_up_to d) xs)))
      go false e ih =
          last_none s (running (clamp w64 (s +ℤ x.amount)) xs) (λ t m. after e t (subst (λ (l : List ℕ). Memᴰ t l) (running_days (clamp w64 (s +ℤ x.amount)) xs) m))
          ∙ sym (ap (λ (l : List Dated). s +ℤ total ints (amounts l)) (keep_none (is_up_to d) xs (λ y m. lt-leb y.day d (after e y.day (Memᴰ.map (λ (z : Dated). z.day) m)))) ∙ +ℤ_idr s)

-- ---- a running total between two dates: it starts from what the points before them come to
abbrev pub is_before : ℕ → Dated → Bool
is_before from x = ltb x.day from

module _ (from to : ℕ) where
  module _ (x : Dated) (xs : List Dated) (r : Rising (days (x ∷ xs))) where
    later : (y : Dated) → Memᴰ y xs → x.day < y.day
    later y m = least x.day (days xs) r y.day (Memᴰ.map (λ (z : Dated). z.day) m)

    none_before : from ≤ x.day → keep (is_before from) xs ≡ []
    none_before h = keep_none (is_before from) xs (λ y m. le-ltb y.day from (omega (arith, later y m)))

    none_between : to < x.day → keep (is_between from to) xs ≡ []
    none_between h = keep_none (is_between from to) xs (λ y m. ap (λ (b : Bool). leb from y.day && b) (lt-leb y.day to (omega (arith, later y m))) ∙ and-false (leb from y.day))

    -- one step
    step : (s n : ℤ) → n ≡ clamp w64 (s +ℤ x.amount) → (a b : Bool) → leb from x.day ≡ a → leb x.day to ≡ b
        → keep (is_between from to) (running n xs) ≡ running (saturated w64 n (amounts (keep (is_before from) xs))) (keep (is_between from to) xs)
        → cons_if (a && b) (on x.day n) (keep (is_between from to) (running n xs)) ≡ running (saturated w64 s (amounts (cons_if (is_before from x) x (keep (is_before from) xs)))) (cons_if (a && b) x (keep (is_between from to) xs))
    unfolding running saturated
    step s n q false b e f ih =
        ih
        ∙ ap (λ (z : ℤ). running (saturated w64 z (amounts (keep (is_before from) xs))) (keep (is_between from to) xs)) q
        ∙ ap (λ (t : Bool). running (saturated w64 s (amounts (cons_if t x (keep (is_before from) xs)))) (keep (is_between from to) xs)) (sym (lt-ltb x.day from (leb-false from x.day e)))
    step s n q true true e f ih =
        let h = leb-true from x.day e in
        let none = none_before h in
        ap (λ (l : List Dated). on x.day n ∷ l) (ih ∙ ap (λ (l : List Dated). running (saturated w64 n (amounts l)) (keep (is_between from to) xs)) none)
        ∙ ap (λ (z : ℤ). on x.day z ∷ running z (keep (is_between from to) xs)) q
        ∙ sym (ap₂ (λ (t : Bool) (l : List Dated). running (saturated w64 s (amounts (cons_if t x l))) (x ∷ keep (is_between from to) xs)) (le-ltb x.day from h) none)
    step s n q true false e f ih =
        let none = none_between (leb-false x.day to f) in
        ih
        ∙ ap (running (saturated w64 n (amounts (keep (is_before from) xs)))) none
        ∙ sym (ap (running (saturated w64 s (amounts (cons_if (is_before from x) x (keep (is_before from) xs))))) none)

  pub running_between : (s : ℤ) (xs : List Dated) → Rising (days xs) → keep (is_between from to) (running s xs) ≡ running (saturated w64 s (amounts (keep (is_before from) xs))) (keep (is_between from to) xs)
  unfolding running keep saturated
  running_between s [] r = refl
  running_between s (x ∷ xs) r =
      let n = clamp w64 (s +ℤ x.amount) in
      step x xs r s n refl (leb from x.day) (leb x.day to) refl refl (running_between n xs (rest_rises x.day (days xs) r))

points_rise : (xs : List Dated) → Rising (days (points xs))
unfolding points dates_between
points_rise xs = rw (point_dates xs 0 (last_day xs)) (keep_rises (is_charged xs) 0 (last_day xs + 1 - 0))

pub curve_between : (book : Book) (from to : ℕ)
    → planned_curve_between book from to ≡ running (saturated w64 (pos 0) (amounts (keep (is_before from) (points (planned_by_day book))))) (points_between (planned_by_day book) from to)
unfolding planned_curve_between planned_curve
curve_between book from to =
    let xs = points (planned_by_day book) in
    running_between from to (pos 0) xs (points_rise (planned_by_day book))
    ∙ ap (running (saturated w64 (pos 0) (amounts (keep (is_before from) xs)))) (sym (points_within (planned_by_day book) from to))

-- ---- amounts whose magnitudes add up to no more than the largest number
module _ (xs : List Dated) (h : magnitudes (amounts xs) ≤ most w64) where
  -- what falls on a date
  abbrev falls : ℕ → ℤ
  falls t = total ints (amounts (keep (is_dated t) xs))

  point_exact : (t : ℕ) → (point_on xs t).amount ≡ falls t
  unfolding point_on saturated_sum
  point_exact t = exact w64 (amounts (keep (is_dated t) xs)) (omega (arith, magnitudes_kept (λ (x : Dated). x.amount) (is_dated t) xs))

  nothing : (t : ℕ) → is_charged xs t ≡ false → falls t ≡ pos 0
  unfolding is_charged total
  nothing t e = ap (λ (l : List Dated). total ints (amounts l)) (keep_unless (is_dated t) xs e)

  point_amounts : (from to : ℕ) → amounts (points_between xs from to) ≡ map falls (keep (is_charged xs) (dates_between from to))
  unfolding points_between
  point_amounts from to =
      map-map (λ (x : Dated). x.amount) (point_on xs) (keep (is_charged xs) (dates_between from to))
      ∙ map_kept (is_charged xs) (λ (t : ℕ). (point_on xs t).amount) falls (dates_between from to) (λ t e. point_exact t)

  -- the points up to a date add up to what falls up to it
  points_total : (d : ℕ) → total ints (amounts (points_between xs 0 d)) ≡ total ints (amounts (keep (is_up_to d) xs))
  unfolding dates_between
  points_total d =
      ap (total ints) (point_amounts 0 d)
      ∙ total_kept ints falls (is_charged xs) (dates_between 0 d) nothing
      ∙ total_span ints falls (d + 1 - 0)
      ∙ total_by ints (λ (x : Dated). x.amount) (λ (x : Dated). x.day) (d + 1 - 0) xs
      ∙ ap (λ (l : List Dated). total ints (amounts l)) (keep_same (λ (x : Dated). ltb x.day (d + 1 - 0)) (is_up_to d) xs (λ x. go x (dec_lt d x.day)))
    where
      go : (x : Dated) → Dec (d < x.day) → ltb x.day (d + 1 - 0) ≡ leb x.day d
      go x (yes l) = le-ltb x.day (d + 1 - 0) (omega arith) ∙ sym (lt-leb x.day d l)
      go x (no l) = lt-ltb x.day (d + 1 - 0) (omega arith) ∙ sym (le-leb x.day d (omega arith))

  -- and are no larger
  points_magnitudes : (d : ℕ) → magnitudes (amounts (points_between xs 0 d)) ≤ magnitudes (amounts xs)
  unfolding dates_between
  points_magnitudes d =
      let n : ℕ = d + 1 - 0 in
      let size : ℕ → ℕ = λ t. nat_abs (falls t) in
      let sizes : ℕ → ℕ = λ t. total nats (map (λ (x : Dated). nat_abs x.amount) (keep (is_dated t) xs)) in
      let early : Dated → Bool = λ x. ltb x.day n in
      omega (
        arith,
        ap magnitudes (point_amounts 0 d) ∙ magnitudes_total falls (keep (is_charged xs) (dates_between 0 d)) ∙ total_kept nats size (is_charged xs) (dates_between 0 d) (λ t e. ap nat_abs (nothing t e)) ∙ total_span nats size n,
        sum_mono size sizes n (λ t l. omega (arith, abs_total (amounts (keep (is_dated t) xs)), magnitudes_total (λ (x : Dated). x.amount) (keep (is_dated t) xs))),
        total_by nats (λ (x : Dated). nat_abs x.amount) (λ (x : Dated). x.day) n xs,
        magnitudes_total (λ (x : Dated). x.amount) (keep early xs),
        magnitudes_kept (λ (x : Dated). x.amount) early xs,
      )

  points_small : nat_abs (pos 0) + magnitudes (amounts (points xs)) ≤ most w64
  unfolding points
  points_small = omega (arith, points_magnitudes (last_day xs))

  -- the curve between two dates, where nothing falls before the first
  pub curve_at : (from to d : ℕ) → d ≤ to → ((t : ℕ) → is_charged xs t ≡ true → from ≤ t)
      → last_figure d (keep (is_between from to) (running (pos 0) (points xs))) ≡ total ints (amounts (keep (is_up_to d) xs))
  unfolding last_figure
  curve_at from to d l f =
      last_between d from to l (pos 0) (running (pos 0) (points xs)) (λ t m. f t ((all_dates xs t).0 (subst (λ (l : List ℕ). Memᴰ t l) (running_days (pos 0) (points xs)) m)))
      ∙ last_running d (pos 0) (points xs) (points_rise xs) points_small
      ∙ +ℤ_idl (total ints (amounts (keep (is_up_to d) (points xs))))
      ∙ ap (λ (l : List Dated). total ints (amounts l)) (keep_same (is_up_to d) (is_between 0 d) (points xs) (λ x. ap (λ (b : Bool). b && leb x.day d) (sym (le-leb 0 x.day zero-le))) ∙ sym (points_within xs 0 d))
      ∙ points_total d
