-- The curve between dates, where nothing falls outside a stretch: the total starts at the stretch's first date.
use Prim.Native.Nat.{ℕ, ◌≤◌, ◌<◌, min, max, zero-le}
use mathlib.Core.Path.{◌≡◌, refl, sym, ap, ap₂, ◌∙◌}
use mathlib.Core.Bool.{Bool, true, false, ◌&&◌}
use mathlib.Core.List.Memᴰ
use mathlib.Core.List.{List, [], ◌∷◌, Memᴰ}
use native.Mathlib.Omega.{arith}
use native.Mathlib.Decide.{dec_lt}
use borrow.Author.Tests.{le-leb, lt-ltb, le-ltb}
use lib.Dec.{leb, ltb}
use lib.IntN.{ℤ, pos}
use mir.Syntax.{w64}
use Rattle.integer.specs.Folds.{saturated}
use Rattle.format.specs.Book.{Book}
use Rattle.lists.specs.Lists.{cons_if, keep}
use Rattle.model.specs.Amounts.{Dated, amounts, is_between, is_charged, points_between, points}
use Rattle.model.specs.Planned.{planned_by_day, running, planned_curve, planned_curve_between}
use Rattle.lists.proofs.Lists.{keep_none, keep_keep, keep_same}
use Rattle.model.proofs.Points.{all_dates, points_none}
use Rattle.model.proofs.Curve.{is_before, curve_between}
use Rattle.bydate.proofs.Pointing.{points_narrow}

-- where two tests agree on what a list has
keep_agree : {A : Type 0} (p q : A → Bool) (xs : List A) → ((x : A) → Memᴰ x xs → p x ≡ q x) → keep p xs ≡ keep q xs
unfolding keep
keep_agree p q [] h = refl
keep_agree {A} p q (x ∷ xs) h = ap₂ (λ (b : Bool) (l : List A). cons_if b x l) (h x (Memᴰ.head refl)) (keep_agree p q xs (λ y m. h y (Memᴰ.tail m)))

pub curve_none : (book : Book) (from to : ℕ) → to < from → planned_curve_between book from to ≡ []
unfolding running
curve_none book from to h =
    curve_between book from to ∙ ap (running (saturated w64 (pos 0) (amounts (keep (is_before from) (points (planned_by_day book)))))) (points_none (planned_by_day book) from to h)

module _ (book : Book) (base end : ℕ) (within : (d : ℕ) → is_charged (planned_by_day book) d ≡ true → (base ≤ d) × (d ≤ end)) where
  abbrev xs : List Dated
  xs = planned_by_day book

  -- what the points before a date come to
  abbrev before : ℕ → ℤ
  before from = saturated w64 (pos 0) (amounts (keep (is_before from) (points xs)))

  -- a point is within the stretch
  early : (y : Dated) → Memᴰ y (points xs) → base ≤ y.day
  early y m = (within y.day ((all_dates xs y.day).0 (Memᴰ.map (λ (x : Dated). x.day) m))).0

  before_narrow : (from : ℕ) → before (max from base) ≡ before from
  before_narrow from =
      ap (λ (l : List Dated). saturated w64 (pos 0) (amounts l))
      (keep_agree (is_before (max from base)) (is_before from) (points xs) (λ y m. go y (early y m) (dec_lt y.day from)))
    where
      go : (y : Dated) → base ≤ y.day → Dec (y.day < from) → ltb y.day (max from base) ≡ ltb y.day from
      go y h (yes l) = lt-ltb y.day (max from base) (omega arith) ∙ sym (lt-ltb y.day from l)
      go y h (no l) = le-ltb y.day (max from base) (omega arith) ∙ sym (le-ltb y.day from (omega arith))

  pub curve_narrow : (from to : ℕ) → planned_curve_between book (max from base) (min to end) ≡ planned_curve_between book from to
  curve_narrow from to =
      curve_between book (max from base) (min to end)
      ∙ ap₂ running (before_narrow from) (points_narrow xs from to base end within)
      ∙ sym (curve_between book from to)

  -- from the first date of the stretch on there is all that the curve starts with
  curve_start : (hi : ℕ) → hi ≤ end → running (pos 0) (points_between xs base hi) ≡ planned_curve_between book 0 hi
  unfolding saturated
  curve_start hi h =
      let e : max 0 base ≡ base = omega arith in
      let f : min hi end ≡ hi = omega arith in
      ap₂ running
      (sym (ap (λ (l : List Dated). saturated w64 (pos 0) (amounts l)) (keep_none (is_before 0) (points xs) (λ y m. le-ltb y.day 0 zero-le))))
      (sym (ap₂ (points_between xs) e f) ∙ points_narrow xs 0 hi base end within)
      ∙ sym (curve_between book 0 hi)

  pub curve_from : (lo hi : ℕ) → hi ≤ end → keep (is_between lo hi) (running (pos 0) (points_between xs base hi)) ≡ planned_curve_between book lo hi
  unfolding planned_curve_between
  curve_from lo hi h =
      ap (keep (is_between lo hi)) (curve_start hi h)
      ∙ keep_keep (is_between 0 hi) (is_between lo hi) (planned_curve book)
      ∙ keep_same (λ (x : Dated). is_between 0 hi x && is_between lo hi x) (is_between lo hi) (planned_curve book)
      (λ x. ap (λ (b : Bool). (b && leb x.day hi) && (leb lo x.day && leb x.day hi)) (le-leb 0 x.day zero-le) ∙ both (leb x.day hi) (leb lo x.day))
    where
      both : (a b : Bool) → (a && (b && a)) ≡ (b && a)
      both true b = refl
      both false true = refl
      both false false = refl
