-- The points of amounts of which the first fall on one day and the others on later ones.
use Prim.Native.Nat.{ℕ, zero, suc, ◌+◌, ◌-◌, ◌<◌}
use mathlib.Core.Path.{◌≡◌, refl, sym, ap, ap₂, ◌∙◌}
use mathlib.Core.Logic.{⊎_elim}
use mathlib.Core.Bool.{Bool, true}
use mathlib.Core.List.Memᴰ
use mathlib.Core.List.{List, [], ◌∷◌, ◌++◌, map, append-nil, Memᴰ}
use native.Mathlib.Omega.{arith}
use borrow.Author.Tests.{eqb-true, eq-eqb, ne_eqb, lt-ltb}
use lib.Dec.{ltb}
use lib.ListN.{length, get_or}
use Rattle.format.specs.InRange.{Rising}
use Rattle.lists.specs.Lists.{cons_if, keep}
use Rattle.model.specs.Days.{dates_between}
use Rattle.model.specs.Amounts.{Dated, on, saturated_sum, is_dated, is_charged, point_on, points_between, last_day, points}
use Rattle.lists.proofs.Lists.{any_some, in_any, keep_none, keep_all, keep_append, map_same, got_in}
use Rattle.model.proofs.Rising.{keep_rises, rising_same}
use Rattle.model.proofs.Points.{point_dates, all_dates}

abbrev days_of : List Dated → List ℕ
days_of xs = map (λ (x : Dated). x.day) xs

points_rise : (xs : List Dated) → Rising (days_of (points xs))
unfolding points dates_between
points_rise xs = rw (point_dates xs 0 (last_day xs)) (keep_rises (is_charged xs) 0 (last_day xs + 1 - 0))

points_are : (xs : List Dated) → points xs ≡ map (point_on xs) (days_of (points xs))
unfolding points points_between
points_are xs = sym (ap (map (point_on xs)) (point_dates xs 0 (last_day xs)))

rising_cons : (x : ℕ) (xs : List ℕ) → ((d : ℕ) → Memᴰ d xs → x < d) → Rising xs → Rising (x ∷ xs)
rising_cons x xs h r zero zero m l = absurd (omega arith)
rising_cons x xs h r zero (suc k) m l = h (get_or xs k 0) (got_in xs 0 k (omega arith))
rising_cons x xs h r (suc j) zero m l = absurd (omega arith)
rising_cons x xs h r (suc j) (suc k) m l = r j k (omega arith) (omega arith)

module _ (d : ℕ) (x : Dated) (xs ys : List Dated) (here : (z : Dated) → Memᴰ z (x ∷ xs) → z.day ≡ d) (later : (y : Dated) → Memᴰ y ys → d < y.day) where
  charged_later : (e : ℕ) → is_charged ys e ≡ true → d < e
  unfolding is_charged
  charged_later e t = let (y, m, q) = any_some (is_dated e) ys t in omega (arith, later y m, eqb-true y.day e q)

  -- the days: the one, then those of the others
  into : (e : ℕ) → is_charged (x ∷ xs ++ ys) e ≡ true → Memᴰ e (d ∷ days_of (points ys))
  unfolding is_charged
  into e t =
      let (z, m, q) = any_some (is_dated e) (x ∷ xs ++ ys) t in
      let is = eqb-true z.day e q in
      ⊎_elim (λ h. Memᴰ.head (sym is ∙ here z h)) (λ h. Memᴰ.tail ((all_dates ys e).1 (in_any (is_dated e) z ys h q))) (Memᴰ.append_cases (x ∷ xs) m)

  back : (e : ℕ) → Memᴰ e (d ∷ days_of (points ys)) → is_charged (x ∷ xs ++ ys) e ≡ true
  unfolding is_charged
  back e m =
      ⊎_elim
      (λ q. in_any (is_dated e) x (x ∷ xs ++ ys) (Memᴰ.head refl) (eq-eqb x.day e (here x (Memᴰ.head refl) ∙ sym q)))
      (λ r. let (y, k, q) = any_some (is_dated e) ys ((all_dates ys e).0 r) in in_any (is_dated e) y (x ∷ xs ++ ys) (Memᴰ.append_right (x ∷ xs) k) q)
      (Memᴰ.cases_cons m)

  days_first : days_of (points (x ∷ xs ++ ys)) ≡ d ∷ days_of (points ys)
  days_first =
      let zs = x ∷ xs ++ ys in
      rising_same (days_of (points zs)) (d ∷ days_of (points ys)) (points_rise zs)
      (rising_cons d (days_of (points ys)) (λ e m. charged_later e ((all_dates ys e).0 m)) (points_rise ys))
      (λ e m. into e ((all_dates zs e).0 m)) (λ e m. (all_dates zs e).1 (back e m))

  -- what falls on them
  here_only : keep (is_dated d) (x ∷ xs ++ ys) ≡ x ∷ xs
  here_only =
      keep_append (is_dated d) (x ∷ xs) ys
      ∙ ap₂ (λ (l r : List Dated). l ++ r) (keep_all (is_dated d) (x ∷ xs) (λ z m. eq-eqb z.day d (here z m))) (keep_none (is_dated d) ys (λ y m. ne_eqb y.day d (λ q. omega (arith, later y m))))
      ∙ append-nil (x ∷ xs)

  later_only : (e : ℕ) → d < e → keep (is_dated e) (x ∷ xs ++ ys) ≡ keep (is_dated e) ys
  later_only e h =
      keep_append (is_dated e) (x ∷ xs) ys ∙ ap (λ (l : List Dated). l ++ keep (is_dated e) ys) (keep_none (is_dated e) (x ∷ xs) (λ z m. ne_eqb z.day e (λ q. omega (arith, here z m))))

  points_first : points (x ∷ xs ++ ys) ≡ on d (saturated_sum (x ∷ xs)) ∷ points ys
  unfolding point_on
  points_first =
      let zs = x ∷ xs ++ ys in
      points_are zs ∙ ap (map (point_on zs)) days_first
      ∙ ap₂ ◌∷◌ (ap (λ (l : List Dated). on d (saturated_sum l)) here_only)
      (map_same (point_on zs) (point_on ys) (days_of (points ys)) (λ e m. ap (λ (l : List Dated). on e (saturated_sum l)) (later_only e (charged_later e ((all_dates ys e).0 m)))) ∙ sym (points_are ys))

-- and where there may be none on the one day
pub points_lead : (d : ℕ) (xs ys : List Dated) → ((x : Dated) → Memᴰ x xs → x.day ≡ d) → ((y : Dated) → Memᴰ y ys → d < y.day)
    → points (xs ++ ys) ≡ cons_if (ltb 0 (length xs)) (on d (saturated_sum xs)) [] ++ points ys
points_lead d [] ys here later = refl
points_lead d (x ∷ xs) ys here later =
    points_first d x xs ys here later ∙ sym (ap (λ (b : Bool). cons_if b (on d (saturated_sum (x ∷ xs))) [] ++ points ys) (lt-ltb 0 (length (x ∷ xs)) (omega arith)))
