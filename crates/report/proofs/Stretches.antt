-- The curve in stretches of dates: one behind the other they are the whole, and none has more points than dates. Assumes nothing.
use Prim.Native.Nat.{ℕ, suc, ◌+◌, ◌-◌, ◌≤◌, ◌<◌}
use native.Mathlib.Omega.{arith}
use mathlib.Core.Path.{◌≡◌, refl, sym, ap, ◌∙◌, subst}
use mathlib.Core.Logic.{⊎_elim}
use mathlib.Core.Bool.{Bool, true, false, ◌&&◌, and-false}
use mathlib.Core.List.Memᴰ
use mathlib.Core.List.{List, [], ◌∷◌, ◌++◌, flat_map, Memᴰ}
use borrow.Author.Tests.{leb-true, leb-false, le-leb, lt-leb}
use lib.Dec.{leb}
use lib.IntN.{ℤ, pos}
use lib.ListN.{length, length-map}
use Rattle.lists.specs.Lists.{span, cons_if, keep}
use Rattle.lists.proofs.Lists.{keep_none, keep_alike, keep_length}
use Rattle.lists.proofs.Spans.{span_length}
use Rattle.flat.proofs.Tables.{flat_append}
use Rattle.format.specs.Book.{Book}
use Rattle.format.specs.InRange.{Rising}
use Rattle.model.specs.Days.{dates_between}
use Rattle.model.specs.Amounts.{Dated, is_between, is_charged, point_on, points_between, last_day, points}
use Rattle.model.specs.Planned.{planned_by_day, running, planned_curve, planned_curve_between}
use Rattle.model.proofs.Rising.{keep_rises, rest_rises, least}
use Rattle.model.proofs.Points.{point_dates}
use Rattle.model.proofs.Curve.{days, running_days, curve_between}
use Rattle.report.specs.Status.{curve_line, curve_text}

one_more : {A : Type 0} (t : Bool) (x : A) (xs ys zs : List A) → xs ≡ ys ++ zs → cons_if t x xs ≡ cons_if t x ys ++ zs
one_more true x xs ys zs e = ap (λ l. x ∷ l) e
one_more false x xs ys zs e = e

-- rising dates from a to c are those up to b and those behind it
module _ (a b c : ℕ) (h : a ≤ suc b) (l : b ≤ c) where
  behind :
      (xs : List Dated) → ((y : Dated) → Memᴰ y xs → b < y.day) →
      keep (is_between a c) xs ≡ keep (is_between a b) xs ++ keep (is_between (suc b) c) xs
  behind xs later =
      keep_alike (is_between a c) (is_between (suc b) c) xs
      (λ y m. ap (λ (t : Bool). t && leb y.day c) (le-leb a y.day (omega (arith, later y m)) ∙ sym (le-leb (suc b) y.day (later y m))))
      ∙ ap (λ (ys : List Dated). ys ++ keep (is_between (suc b) c) xs)
      (sym (keep_none (is_between a b) xs (λ y m. ap (λ (t : Bool). leb a y.day && t) (lt-leb y.day b (later y m)) ∙ and-false (leb a y.day))))

  parted : (xs : List Dated) → Rising (days xs) → keep (is_between a c) xs ≡ keep (is_between a b) xs ++ keep (is_between (suc b) c) xs
  unfolding keep
  parted [] r = refl
  parted (x ∷ xs) r = go (leb x.day b) refl (parted xs (rest_rises x.day (days xs) r))
    where
      after : b < x.day → (y : Dated) → Memᴰ y (x ∷ xs) → b < y.day
      after k y m = ⊎_elim (λ e. rw e k) (λ t. omega (arith, least x.day (days xs) r y.day (Memᴰ.map (λ (z : Dated). z.day) t))) (Memᴰ.cases_cons m)

      go :
          (t : Bool) → leb x.day b ≡ t → keep (is_between a c) xs ≡ keep (is_between a b) xs ++ keep (is_between (suc b) c) xs →
          keep (is_between a c) (x ∷ xs) ≡ keep (is_between a b) (x ∷ xs) ++ keep (is_between (suc b) c) (x ∷ xs)
      go true e ih =
          let k = leb-true x.day b e in
          ap (λ (t : Bool). cons_if (leb a x.day && t) x (keep (is_between a c) xs)) (le-leb x.day c (omega (arith, k)) ∙ sym e)
          ∙ one_more (is_between a b x) x (keep (is_between a c) xs) (keep (is_between a b) xs) (keep (is_between (suc b) c) xs) ih
          ∙ ap (λ (t : Bool). cons_if (is_between a b x) x (keep (is_between a b) xs) ++ cons_if (t && leb x.day c) x (keep (is_between (suc b) c) xs))
          (sym (lt-leb (suc b) x.day (omega (arith, k))))
      go false e ih = behind (x ∷ xs) (after (leb-false x.day b e))

curve_rises : (book : Book) → Rising (days (planned_curve book))
unfolding planned_curve points dates_between
curve_rises book =
    let xs = planned_by_day book in
    subst (λ (l : List ℕ). Rising l) (sym (running_days (pos 0) (points xs) ∙ point_dates xs 0 (last_day xs))) (keep_rises (is_charged xs) 0 (last_day xs + 1 - 0))

-- the text of two stretches, one behind the other
pub joined : (book : Book) (a b c : ℕ) → a ≤ suc b → b ≤ c → curve_text book a c ≡ curve_text book a b ++ curve_text book (suc b) c
unfolding curve_text planned_curve_between
joined book a b c h l =
    ap (flat_map curve_line) (parted a b c h l (planned_curve book) (curve_rises book))
    ∙ flat_append curve_line (planned_curve_between book a b) (planned_curve_between book (suc b) c)

running_length : (s : ℤ) (xs : List Dated) → length (running s xs) ≡ length xs
running_length s xs = sym (length-map (running s xs) (λ (x : Dated). x.day)) ∙ ap length (running_days s xs) ∙ length-map xs (λ (x : Dated). x.day)

-- at most a point for each date
pub few_points : (book : Book) (from to : ℕ) → length (planned_curve_between book from to) ≤ to + 1 - from
unfolding points_between dates_between
few_points book from to =
    let xs = planned_by_day book in
    let dates = span from (to + 1 - from) in
    let many : length (planned_curve_between book from to) ≡ length (keep (is_charged xs) dates) =
    ap length (curve_between book from to) ∙ running_length _ (points_between xs from to) ∙ length-map (keep (is_charged xs) dates) (point_on xs) in
    omega (arith, many, keep_length (is_charged xs) dates, span_length from (to + 1 - from))
