-- Earned value, against EV = BAC * a / b where a of b is done: by a percent p of 10,000, by units, by minutes. Assumes nothing.
use Rattle.std.specs.Prelude.{unwrap_or, Some}
use mathlib.Core.Path.{◌≡◌, refl, sym, ap, ap₂, ◌∙◌, subst}
use mathlib.Core.Bool.{false}
use Prim.Native.Nat.{ℕ, suc, ◌+◌, ◌-◌, ◌*◌, ◌^◌, ◌≤◌, ◌<◌, zero-le}
use native.Mathlib.Nat.{le_refl, le_trans, le_of_eq, one-mul, mul_comm, mul-pos, mul-le-mul}
use native.Mathlib.Omega.{arith}
use borrow.Author.Tests.{le-ltb}
use lib.Dec.{T, lit<, lit≤}
use lib.IntN.{ℤ, pos, nat_abs, ◌-ℤ◌}
use lib.Ieee.{Float, nan, inf, fin, binary64, up, down, unlike, round, div, lt, le, of_int}
use lib.Ieee.Order.{round_mono}
use lib.Ieee.Scale.{finite, round_same}
use mir.Syntax.{w64}
use mir.Val.{SFits}
use Rattle.integer.specs.Signs.{negative}
use Rattle.floats.specs.Rounding.{limit, nearest_of}
use Rattle.floats.specs.Figures.{nought, one, ten_thousand, ratio_of, clamp01_of, share_of, earned_of}
use Rattle.floats.proofs.Comparing.{order}
use Rattle.floats.proofs.Laws.{earned_all, earned_none, within_small, round_zero}
use Rattle.format.specs.Book.{Book}
use Rattle.format.specs.declared.Status.{Status}
use Rattle.format.specs.declared.Status.TheVariants.{InProgress}
use Rattle.format.specs.declared.EvTechnique.{EvTechnique}
use Rattle.format.specs.declared.EvTechnique.TheVariants.{Physical, Duration, Units, FiftyFifty, Custom}
use Rattle.model.specs.Lookup.{activity_at}
use Rattle.model.specs.Planned.{budget_of}
use Rattle.model.specs.Earned.{by_duration, units_done, units_in_all, performance_by, performance, leaf_earned}
use Rattle.formulas.specs.Exact.{value, Small, HalfAnd, NearestWhole, AtMostOne}
use Rattle.formulas.specs.Formulas.{share, EV, UpToLimit}
use Rattle.formulas.proofs.Errors.{moderate, larger}
use Rattle.formulas.proofs.Within.{Within, exact_within, size_le, nearest_within, round_within, OneMore, one_more, mul_within}
use Rattle.formulas.proofs.Ratios.{not_zero, small_ratio}
use Rattle.formulas.proofs.Whole.{whole_half, whole_nearest, whole_nearest_even, at_most_one}

-- ---- a share from 0 to 1 is not clamped
one_is : round binary64 false 1 1 ≡ one
unfolding round
one_is = refl

clamp_stays : (z : Float) → T (finite z) → (value z).sign ≡ false → T (le z one) → clamp01_of z ≡ z
unfolding lt
clamp_stays nan f v h = absurd f
clamp_stays (inf t) f v h = absurd f
clamp_stays (fin t m e) f v h =
    let l : m * up e * 1 ≤ 1 * down e = order (fin t m e) one (m * up e) (down e) 1 1 (v, refl) (refl, refl) h in
    rw (v, le-ltb (m * up e * 1) (0 * down e) (omega arith), le-ltb (1 * down e) (m * up e * 1) (omega arith))

pub percent_is : (p : ℕ) → share_of (pos p) ≡ share p 10000
percent_is p = ap (λ (y : Float). clamp01_of (div binary64 (nearest_of (pos p)) y)) ten_thousand_lem
  where
    ten_thousand_lem : ten_thousand ≡ nearest_of (pos 10000)
    ten_thousand_lem = unfold of_int in refl

module _ (a b : ℕ) (part : a ≤ b) (positive : 0 < b) (small : b ≤ 2 ^ 53) where
  rounded : Within (2 ^ 53 - 1) (round binary64 false a b) false a b
  rounded = round_within false a b positive (larger (lit≤ {m = 2 ^ 53} {n = 2 ^ 500} tt) (moderate (2 ^ 53) a b (le_trans part small) small positive))

  at_most_all : T (le (round binary64 false a b) one)
  at_most_all = subst (λ (z : Float). T (le (round binary64 false a b) z)) one_is (round_mono binary64 a b 1 1 positive (lit< tt) (omega arith))

  -- the share is the float nearest to a / b
  pub share_is : share a b ≡ round binary64 false a b
  share_is =
      ap clamp01_of (small_ratio (pos a) (pos b) (not_zero (pos b) positive) (le_trans part small) small)
      ∙ clamp_stays (round binary64 false a b) rounded.number rounded.sign at_most_all

  share_within : Within (2 ^ 53 - 1) (share a b) false a b
  share_within = rw share_is rounded

-- ---- the laws, where a of b is done
module _ (budget : ℤ) (a b : ℕ) (part : a ≤ b) (positive : 0 < b) (small : b ≤ 2 ^ 53) where
  by_share : (d k r : ℕ) → OneMore d (2 ^ 53 - 1) k → k + r ≡ 2 ^ 53 → nat_abs budget ≤ 2 ^ 63 → Within d (nearest_of budget) (negative budget) (nat_abs budget) 1
      → UpToLimit (EV budget a b) → HalfAnd r k (earned_of budget (share a b)) (EV budget a b)
  by_share d k r more sum size w h =
      whole_half _ (unlike (negative budget) false) (nat_abs budget * a) (1 * b) k r sum h
      (mul_within (nearest_of budget) (share a b) (negative budget) false (nat_abs budget) 1 a b d (2 ^ 53 - 1) k (lit< tt) positive more
      (larger (lit≤ {m = 2 ^ 63 * 2 ^ 53} {n = 2 ^ 499} tt)
      (moderate (2 ^ 63 * 2 ^ 53) (nat_abs budget * a) (1 * b) (mul-le-mul size (le_trans part small)) (mul-le-mul (lit≤ {m = 1} {n = 2 ^ 63} tt) small) (mul-pos (lit< {m = 0} {n = 1} tt) positive)))
      w (share_within a b part positive small))

  -- a budget up to 2 ^ 53, two roundings: |EV − exact| ≤ 1 / 2 + |exact| * 2 / (2 ^ 53 − 2)
  pub earned_half : Small budget → UpToLimit (EV budget a b) → HalfAnd 2 (2 ^ 53 - 2) (earned_of budget (share a b)) (EV budget a b)
  earned_half little = by_share (2 ^ 53) (2 ^ 53 - 2) 2 (one_more tt tt) refl (le_trans little (lit≤ tt)) (exact_within budget little)

  -- any budget of 64 bits, three: |EV − exact| ≤ 1 / 2 + |exact| * 3 / (2 ^ 53 − 3)
  pub earned_half_all : SFits w64 budget → UpToLimit (EV budget a b) → HalfAnd 3 (2 ^ 53 - 3) (earned_of budget (share a b)) (EV budget a b)
  earned_half_all fits = by_share (2 ^ 53 - 1) (2 ^ 53 - 3) 3 (one_more tt tt) refl (size_le budget fits) (nearest_within budget fits)

  share_le : (n : ℕ) → nat_abs budget ≤ n → nat_abs budget * a ≤ n * (1 * b)
  share_le n h = mul-le-mul h (le_trans part (le_of_eq (sym (one-mul b))))

  -- at most 1 hundredth away for a budget up to 2.25 * 10 ^ 15 hundredths
  pub earned_at_most_one : nat_abs budget ≤ 2250000000000000 → AtMostOne (earned_of budget (share a b)) (EV budget a b)
  earned_at_most_one h =
      let l = share_le 2250000000000000 h in
      at_most_one (earned_of budget (share a b)) (unlike (negative budget) false) (nat_abs budget * a) (1 * b) (2 ^ 53 - 2) 2 (lit< tt) (omega arith)
      (earned_half (le_trans h (lit≤ tt)) (share_le limit (le_trans h (lit≤ tt))))

  -- and a whole number nearest to the exact one where |BAC| * a is below 2 ^ 51
  pub earned_nearest : nat_abs budget ≤ limit → nat_abs budget * a < 2 ^ 51 → NearestWhole (earned_of budget (share a b)) (EV budget a b)
  earned_nearest h l =
      whole_nearest (earned_of budget (share a b)) (unlike (negative budget) false) (nat_abs budget * a) (1 * b) (2 ^ 53 - 2) 2 (omega arith) (earned_half (le_trans h (lit≤ tt)) (share_le limit h))

-- ---- by a percent, p of 10,000
module _ (budget : ℤ) (p : ℕ) (part : p ≤ 10000) where
  -- it is a whole number nearest to the exact one where |BAC| * p is below 2 ^ 52 − 1
  pub percent_nearest : nat_abs budget ≤ limit → nat_abs budget * p < 2 ^ 52 - 1 → NearestWhole (earned_of budget (share p 10000)) (EV budget p 10000)
  percent_nearest h l =
      let a = nat_abs budget * p in
      whole_nearest_even (earned_of budget (share p 10000)) (unlike (negative budget) false) a 5000 (2 ^ 53 - 2) 2 (omega arith)
      (earned_half budget p 10000 part (lit< tt) (lit≤ tt) (le_trans h (lit≤ tt)) (omega arith))

  -- so for every percent of a budget up to 4.5 * 10 ^ 11 hundredths, which is 4.5 * 10 ^ 9 of the currency
  pub percent_nearest_below : nat_abs budget ≤ 450000000000 → NearestWhole (earned_of budget (share p 10000)) (EV budget p 10000)
  percent_nearest_below h = percent_nearest (le_trans h (lit≤ tt)) (below (mul-le-mul h part))
    where
      below : {a : ℕ} → a ≤ 450000000000 * 10000 → a < 2 ^ 52 - 1
      below l = omega arith

-- ---- where nothing and where all is done it is exact
pub earned_of_none : (budget : ℤ) (b : ℕ) → 0 < b → b ≤ 2 ^ 53 → earned_of budget (share 0 b) ≡ pos 0
earned_of_none budget b B small = ap (earned_of budget) (share_is 0 b zero-le B small ∙ round_zero false 0 b B refl) ∙ earned_none budget

pub earned_of_all : (budget : ℤ) (b : ℕ) → 0 < b → b ≤ 2 ^ 53 → nat_abs budget ≤ limit → earned_of budget (share b b) ≡ budget
earned_of_all budget b B small h =
    ap (earned_of budget) (share_is b b (le_refl b) B small ∙ round_same binary64 false b b 1 1 B (lit< tt) (mul_comm b 1) ∙ one_is) ∙ earned_all budget ∙ within_small budget h

-- ---- in a book, of work under way
module _ (book : Book) (i : ℕ) (started : (activity_at book i).status ≡ InProgress) where
  pub by_judged_percent : (p : ℕ) → book.technique ≡ Physical → (activity_at book i).percent ≡ Some (pos p) → performance book i ≡ share p 10000
  unfolding performance
  by_judged_percent p t q = rw (t, started, q) (percent_is p)

  pub by_own_share : (p : ℕ) → book.technique ≡ Custom (pos p) → performance book i ≡ share p 10000
  unfolding performance
  by_own_share p t = rw (t, started) (percent_is p)

  pub by_half : book.technique ≡ FiftyFifty → performance book i ≡ share 1 2
  unfolding performance of_int div lt
  by_half t = rw (t, started)

  pub by_units_done : (a b : ℕ) → book.technique ≡ Units → units_done book i ≡ pos a → units_in_all book i ≡ pos (suc b) → performance book i ≡ share a (suc b)
  unfolding performance
  by_units_done a b t u w =
      let work = activity_at book i in
      ap₂ (λ (x : EvTechnique) (y : Status). performance_by x y work.percent work.working_minutes work.remaining_minutes (units_done book i) (units_in_all book i)) t started
      ∙ ap₂ (λ (x y : ℤ). clamp01_of (unwrap_or (ratio_of x y) (by_duration work.working_minutes work.remaining_minutes))) u w

  pub by_minutes_done : (a b : ℕ) → book.technique ≡ Duration → (activity_at book i).working_minutes ≡ suc b → pos (suc b) -ℤ pos (activity_at book i).remaining_minutes ≡ pos a
      → performance book i ≡ share a (suc b)
  unfolding performance
  by_minutes_done a b t m d =
      rw (t, started)
      (ap₂ (λ (x : ℤ) (y : ℕ). clamp01_of (unwrap_or (ratio_of x (pos y)) nought)) (ap (λ (y : ℕ). pos y -ℤ pos (activity_at book i).remaining_minutes) m ∙ d) m)

-- EV of a leaf: |EV − BAC * a / b| ≤ 1 / 2 + |BAC * a / b| * 2 / (2 ^ 53 − 2)
pub leaf_earned_half : (book : Book) (date i a b : ℕ) → performance book i ≡ share a b → a ≤ b → 0 < b → b ≤ 2 ^ 53 → Small (budget_of book i) → UpToLimit (EV (budget_of book i) a b)
    → HalfAnd 2 (2 ^ 53 - 2) (leaf_earned book date i).earned (EV (budget_of book i) a b)
unfolding leaf_earned
leaf_earned_half book date i a b done part B small little h = rw done (earned_half (budget_of book i) a b part B small little h)
