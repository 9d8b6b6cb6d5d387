-- From month to month a twelve-month sum takes the new month in and drops the one twelve before it; and what the mark says.
use Prim.Native.Nat.{ℕ, zero, suc, ◌+◌, ◌-◌, ◌≤◌, ◌<◌}
use mathlib.Core.Path.{◌≡◌, refl, sym, ap, ap₂, ◌∙◌}
use mathlib.Core.Bool.{Bool, true, false, true≢false, not, cond}
use mathlib.Core.List.{List, [], Memᴰ}
use native.Mathlib.Omega.{arith}
use native.Mathlib.Decide.{dec_lt}
use borrow.Author.Tests.{lt-ltb}
use lib.Dec.{ltb}
use lib.IntN.{ℤ, pos, ◌+ℤ◌, ◌-ℤ◌}
use lib.ListN.{length, length-map}
use lib.Signed.{◌≤ℤ◌, ◌<ℤ◌, le_z, lt_z}
use Rattle.integer.specs.Linear.{linear, sum as add_parts, dif}
use Rattle.integer.specs.Sums.{ints, sum, total, sum_cong, sum_none}
use Rattle.lists.specs.Lists.{span, keep}
use Rattle.lists.proofs.Lists.{in_any, keep_length}
use Rattle.lists.proofs.Spans.{span_length}
use Rattle.months.specs.Months.{january2000}
use Rattle.model.specs.TwelveMonths.{Monthly, month_sum, twelve_sum, is_spanned, months, outdoes, is_largest, twelve_months_to, twelve_months_of}
use Rattle.model.proofs.TwelveCases.{listed_by_a_point}

-- the first of the summands apart
sum_first : (f : ℕ → ℤ) (k : ℕ) → sum ints f (suc k) ≡ f 0 +ℤ sum ints (λ (i : ℕ). f (suc i)) k
unfolding sum
sum_first f zero = omega (linear, add_parts (pos 0) (f 0), add_parts (f 0) (pos 0))
sum_first f (suc k) =
    let rest = sum ints (λ (i : ℕ). f (suc i)) k in
    omega (linear, sum_first f k, add_parts (sum ints f (suc k)) (f (suc k)), add_parts (f 0) rest, add_parts rest (f (suc k)), add_parts (f 0) (rest +ℤ f (suc k)))

module _ (xs : List Monthly) where
  pub twelve_next : (m : ℕ) → twelve_sum xs (m + 1) ≡ (twelve_sum xs m +ℤ month_sum xs (m + 1)) -ℤ month_sum xs (m - 11)
  unfolding twelve_sum sum
  twelve_next m =
      let eleven = sum ints (λ (k : ℕ). month_sum xs (m - k)) 11 in
      let before : (k : ℕ) → k < 11 → month_sum xs (m + 1 - suc k) ≡ month_sum xs (m - k) = λ k h. ap (month_sum xs) (omega arith) in
      let here : m + 1 - 0 ≡ m + 1 = omega arith in
      let new : twelve_sum xs (m + 1) ≡ month_sum xs (m + 1) +ℤ eleven = sum_first (λ k. month_sum xs (m + 1 - k)) 11 ∙ ap₂ ◌+ℤ◌ (ap (month_sum xs) here) (sum_cong ints _ _ 11 before) in
      let old : twelve_sum xs m ≡ eleven +ℤ month_sum xs (m - 11) = refl in
      let wider = twelve_sum xs m +ℤ month_sum xs (m + 1) in
      omega (linear, new, old, add_parts (month_sum xs (m + 1)) eleven, add_parts eleven (month_sum xs (m - 11)), add_parts (twelve_sum xs m) (month_sum xs (m + 1)), dif wider (month_sum xs (m - 11)))

  -- before the first listed month there is nothing
  pub twelve_none : (m : ℕ) → ((k : ℕ) → k < suc m → month_sum xs k ≡ pos 0) → twelve_sum xs m ≡ pos 0
  unfolding twelve_sum
  twelve_none m none = sum_none ints (λ (k : ℕ). month_sum xs (m - k)) 12 (λ k h. none (m - k) (omega arith))

-- without any point there is no sum
pub no_sum : (m : ℕ) → month_sum [] m ≡ pos 0
unfolding month_sum keep total
no_sum m = refl

-- and no month
pub no_months : months [] ≡ []
no_months = listed_by_a_point.1

-- there are no more rows than months
pub rows_most : (xs : List Monthly) → length (twelve_months_of xs) ≤ 1200
unfolding twelve_months_of months
rows_most xs = omega (arith, length-map (months xs) (twelve_months_to xs), keep_length (is_spanned xs) (span january2000 1200), span_length january2000 1200)

-- ---- the mark

module _ (xs : List Monthly) (m : ℕ) (marked : is_largest xs m ≡ true) (k : ℕ) (listed : Memᴰ k (months xs)) where
  -- no month keeps it from the mark
  not_outdone : outdoes xs m k ≡ false
  unfolding is_largest
  not_outdone = go (outdoes xs m k) refl
    where
      go : (b : Bool) → outdoes xs m k ≡ b → b ≡ false
      go false e = refl
      go true e = absurd (true≢false (sym marked ∙ ap not (in_any (outdoes xs m) k (months xs) listed e)))

  tested : (b : Bool) → ltb k m ≡ b → cond b (le_z (twelve_sum xs m) (twelve_sum xs k)) (lt_z (twelve_sum xs m) (twelve_sum xs k)) ≡ false
  unfolding outdoes
  tested b e = sym (ap (λ (t : Bool). cond t (le_z (twelve_sum xs m) (twelve_sum xs k)) (lt_z (twelve_sum xs m) (twelve_sum xs k))) e) ∙ not_outdone

  -- no sum is larger than that of the marked month
  pub marked_most : twelve_sum xs k ≤ℤ twelve_sum xs m
  marked_most = go (ltb k m) refl
    where
      go : (b : Bool) → ltb k m ≡ b → twelve_sum xs k ≤ℤ twelve_sum xs m
      go true e = omega (linear, tested true e)
      go false e = omega (linear, tested false e)

  -- and none before it is as large
  pub marked_first : k < m → twelve_sum xs k <ℤ twelve_sum xs m
  marked_first h = omega (linear, tested true (lt-ltb k m h))

-- there is one mark
pub marked_once : (xs : List Monthly) (a b : ℕ) → Memᴰ a (months xs) → Memᴰ b (months xs) → is_largest xs a ≡ true → is_largest xs b ≡ true → a ≡ b
marked_once xs a b i j p q = go (dec_lt a b) (dec_lt b a)
  where
    go : Dec (a < b) → Dec (b < a) → a ≡ b
    go (yes h) l = absurd (omega (linear, marked_first xs b q a i h, marked_most xs a p b j))
    go (no h) (yes l) = absurd (omega (linear, marked_first xs a p b j l, marked_most xs b q a i))
    go (no h) (no l) = omega arith
