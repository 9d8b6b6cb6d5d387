-- The estimate to complete by an index, against the formulas of EIA-748 and PMI: ETC = (BAC − EV) / CPI and (BAC − EV) / (CPI * SPI). Assumes nothing.
use Rattle.std.proofs.lemmas.Bool.{false≢true}
use Rattle.std.specs.Prelude.{Option, Some, None, is_some}
use mathlib.Core.Path.{◌≡◌, refl, subst}
use mathlib.Core.Bool.{Bool, true, false}
use Prim.Native.Nat.{ℕ, ◌+◌, ◌-◌, ◌*◌, ◌^◌, ◌≤◌, ◌<◌}
use native.Mathlib.Nat.{le_trans, le_of_eq, mul-pos, mul-one, mul-le-mul, mul-le-mul_right}
use native.Mathlib.Omega.{arith}
use borrow.Author.Tests.{lt-ltb}
use lib.Dec.{T, lit<, lit≤}
use lib.IntN.{ℤ, nat_abs, ◌-ℤ◌}
use lib.Ieee.{Float, nan, inf, fin, up, down, unlike, lt, binary64, mul}
use lib.Ieee.Positive.{first_pos}
use lib.Ieee.Scale.{finite}
use mir.Syntax.{w64}
use mir.Val.{SFits}
use Rattle.integer.specs.Signs.{negative}
use Rattle.floats.specs.Rounding.{limit, nearest_of}
use Rattle.floats.specs.Figures.{nought, both_of, at_rate_of, or_nought}
use Rattle.format.specs.declared.EtcTechnique.TheVariants.{Cpi, CpiSpi}
use Rattle.model.specs.declared.Earned.{Earned}
use Rattle.model.specs.Forecast.{cpi, spi, to_earn, etc}
use Rattle.formulas.specs.Exact.{value, integer, ◌÷◌, times, Small, HalfAnd, NearestWhole, AtMostOne}
use Rattle.formulas.specs.Formulas.{CPI, SPI, etc_by_cpi, etc_by_cpi_spi, Above, UpToLimit}
use Rattle.formulas.proofs.Errors.{Moderate, moderate, larger}
use Rattle.formulas.proofs.Nearest.{fraction}
use Rattle.formulas.proofs.Ratios.{not_zero, ratio_present, ratio_within, small_ratio_within}
use Rattle.formulas.proofs.Within.{Within, over_pos, exact_within, size_le, nearest_within, OneMore, one_more, second_pos, count_pos, mul_within, div_within}
use Rattle.formulas.proofs.Whole.{whole_half, whole_nearest, at_most_one}
use Rattle.formulas.proofs.Indices.{small_fits, less_is}

-- ---- an index above 0
positive : (z : Float) → T (finite z) → (value z).sign ≡ false → 0 < (value z).over → lt nought z ≡ true
unfolding lt
positive nan f v h = absurd f
positive (inf t) f v h = absurd f
positive (fin t m e) f v h = rw (v, lt-ltb (0 * down e) (m * up e * 1) (omega arith))

-- ---- what is left, of the roundings that l counts, at an index that is b / c but for those that d counts
at_rate_half : (left : ℤ) (f : Option Float) (b c l d k r : ℕ) → 0 < b → OneMore l d k → k + r ≡ 2 ^ 53 → Moderate (2 ^ 499) (nat_abs left * c) (b * 1) → nat_abs left * c ≤ limit * (b * 1)
    → Within l (nearest_of left) (negative left) (nat_abs left) 1 → is_some f ≡ true → Within d (or_nought f) false b c → HalfAnd r k (at_rate_of left f) (integer left ÷ fraction false b c)
at_rate_half left None b c l d k r B more sum fine h v present w = absurd (false≢true present)
at_rate_half left (Some x) b c l d k r B more sum fine h v present w =
    rw (positive x w.number w.sign (over_pos (count_pos more) B w))
    (whole_half _ (unlike (negative left) false) (nat_abs left * c) (b * 1) k r sum h
    (div_within (nearest_of left) x (negative left) false (nat_abs left) 1 b c l d k (lit< tt) B more fine v w))

-- the product of two indices that are there
both_there : (p q : Option Float) → is_some p ≡ true → is_some q ≡ true → both_of p q ≡ Some (mul binary64 (or_nought p) (or_nought q))
both_there None q h k = absurd (false≢true h)
both_there (Some x) None h k = absurd (false≢true k)
both_there (Some x) (Some y) h k = refl

-- amounts of 64 bits keep the products of three in range
moderate_by : (a c : ℕ) → a ≤ 2 ^ 63 * (2 ^ 63 * 2 ^ 63) → c ≤ 2 ^ 63 * 2 ^ 63 → 0 < c → Moderate (2 ^ 499) a c
moderate_by a c i j some = larger (lit≤ tt) (moderate (2 ^ 63 * (2 ^ 63 * 2 ^ 63)) a c i (le_trans j (lit≤ tt)) some)

-- ---- by an index of any number of roundings
module _ (e : Earned) (fits_left : SFits w64 (e.budget -ℤ e.earned)) (fits-earned : SFits w64 e.earned) (fits-actual : SFits w64 e.actual) where
  abbrev to_go : ℤ
  to_go = e.budget -ℤ e.earned

  abbrev v : ℕ
  v = nat_abs e.earned

  abbrev a : ℕ
  a = nat_abs e.actual

  top_v : v ≤ 2 ^ 63
  top_v = size_le e.earned fits-earned

  top_a : a ≤ 2 ^ 63
  top_a = size_le e.actual fits-actual

  top_l : nat_abs to_go ≤ 2 ^ 63
  top_l = size_le to_go fits_left

  cpi_present : 0 < a → is_some (cpi e) ≡ true
  unfolding cpi
  cpi_present some = ratio_present e.earned e.actual (not_zero e.actual some)

  by_cpi : (l d k r : ℕ) → OneMore l d k → k + r ≡ 2 ^ 53 → Within l (nearest_of to_go) (negative to_go) (nat_abs to_go) 1 → Within d (or_nought (cpi e)) (CPI e).sign v a
      → Above (CPI e) → UpToLimit (etc_by_cpi e) → HalfAnd r k (etc Cpi e) (etc_by_cpi e)
  unfolding etc to_earn
  by_cpi l d k r more sum left index above h =
      rw (less_is e.budget e.earned fits_left, above.sign)
      (at_rate_half to_go (cpi e) v a l d k r above.over more sum
      (moderate_by (nat_abs to_go * a) (v * 1) (mul-le-mul top_l (le_trans top_a (lit≤ {m = 2 ^ 63} {n = 2 ^ 63 * 2 ^ 63} tt))) (mul-le-mul top_v (lit≤ {m = 1} {n = 2 ^ 63} tt)) (mul-pos above.over (lit< tt)))
      h left (cpi_present above.under) (subst (λ (s : Bool). Within d (or_nought (cpi e)) s v a) above.sign index))

  module _ (fits-planned : SFits w64 e.planned) where
    abbrev p : ℕ
    p = nat_abs e.planned

    top_p : p ≤ 2 ^ 63
    top_p = size_le e.planned fits-planned

    spi_present : 0 < p → is_some (spi e) ≡ true
    unfolding spi
    spi_present some = ratio_present e.earned e.planned (not_zero e.planned some)

    both_within : (d g : ℕ) → OneMore d d g → Within d (or_nought (cpi e)) (CPI e).sign v a → Within d (or_nought (spi e)) (SPI e).sign v p → 0 < a → 0 < p
        → Within g (or_nought (both_of (cpi e) (spi e))) (times (CPI e) (SPI e)).sign (v * v) (a * p)
    both_within d g more index index' some some' =
        rw (both_there (cpi e) (spi e) (cpi_present some) (spi_present some'))
        (mul_within (or_nought (cpi e)) (or_nought (spi e)) (CPI e).sign (SPI e).sign v a v p d d g some some' more
        (moderate_by (v * v) (a * p) (le_trans (mul-le-mul top_v top_v) (lit≤ tt)) (mul-le-mul top_a top_p) (mul-pos some some')) index index')

    by_cpi_spi : (l d g k r : ℕ) → OneMore d d g → OneMore l g k → k + r ≡ 2 ^ 53 → Within l (nearest_of to_go) (negative to_go) (nat_abs to_go) 1
        → Within d (or_nought (cpi e)) (CPI e).sign v a → Within d (or_nought (spi e)) (SPI e).sign v p → Above (times (CPI e) (SPI e)) → UpToLimit (etc_by_cpi_spi e)
        → HalfAnd r k (etc CpiSpi e) (etc_by_cpi_spi e)
    unfolding etc to_earn
    by_cpi_spi l d g k r more more' sum left index index' above h =
        let some : 0 < a = first_pos a p above.under in
        let some' : 0 < p = second_pos a p above.under in
        rw (less_is e.budget e.earned fits_left, above.sign)
        (at_rate_half to_go (both_of (cpi e) (spi e)) (v * v) (a * p) l g k r above.over more' sum
        (moderate_by (nat_abs to_go * (a * p)) (v * v * 1) (mul-le-mul top_l (mul-le-mul top_a top_p)) (le_trans (le_of_eq (mul-one (v * v))) (mul-le-mul top_v top_v)) (mul-pos above.over (lit< tt)))
        h left (rw (both_there (cpi e) (spi e) (cpi_present some) (spi_present some')))
        (subst (λ (s : Bool). Within g (or_nought (both_of (cpi e) (spi e))) s (v * v) (a * p)) above.sign (both_within d g more index index' some some')))

-- ---- the laws, for amounts up to 2 ^ 53
module _ (e : Earned) (left : Small (e.budget -ℤ e.earned)) (earned : Small e.earned) (actual : Small e.actual) where
  fits_left : SFits w64 (e.budget -ℤ e.earned)
  fits_left = small_fits (e.budget -ℤ e.earned) left

  cpi_within : 0 < nat_abs e.actual → Within (2 ^ 53 - 1) (or_nought (cpi e)) (CPI e).sign (nat_abs e.earned) (nat_abs e.actual)
  unfolding cpi
  cpi_within some = small_ratio_within e.earned e.actual (not_zero e.actual some) earned actual

  -- ETC by CPI, two roundings: |ETC − exact| ≤ 1 / 2 + |exact| * 2 / (2 ^ 53 − 2)
  pub etc_by_cpi_lem : Above (CPI e) → UpToLimit (etc_by_cpi e) → HalfAnd 2 (2 ^ 53 - 2) (etc Cpi e) (etc_by_cpi e)
  etc_by_cpi_lem above =
      by_cpi e fits_left (small_fits e.earned earned) (small_fits e.actual actual) (2 ^ 53) (2 ^ 53 - 1) (2 ^ 53 - 2) 2 (one_more tt tt) refl
      (exact_within (e.budget -ℤ e.earned) left) (cpi_within above.under) above

  -- where |BAC − EV| * |AC| is below 2 ^ 51, it is a whole number nearest to the exact one
  pub etc_by_cpi_nearest : Above (CPI e) → (etc_by_cpi e).over < 2 ^ 51 → NearestWhole (etc Cpi e) (etc_by_cpi e)
  etc_by_cpi_nearest above h =
      let over = (etc_by_cpi e).over in
      whole_nearest (etc Cpi e) (etc_by_cpi e).sign over (etc_by_cpi e).under (2 ^ 53 - 2) 2 (omega arith) (etc_by_cpi_lem above (within_limit over (nat_abs e.earned) h above.over))
    where
      within_limit : (n c : ℕ) → n < 2 ^ 51 → 0 < c → n ≤ limit * (c * 1)
      within_limit n c h some = omega arith

  -- and where the exact one is up to 2.25 * 10 ^ 15 hundredths, it is at most 1 hundredth away
  pub etc_by_cpi_at_most_one : Above (CPI e) → (etc_by_cpi e).over ≤ 2250000000000000 * (etc_by_cpi e).under → AtMostOne (etc Cpi e) (etc_by_cpi e)
  etc_by_cpi_at_most_one above h =
      let over = (etc_by_cpi e).over in
      let under = (etc_by_cpi e).under in
      at_most_one (etc Cpi e) (etc_by_cpi e).sign over under (2 ^ 53 - 2) 2 (lit< tt) (omega arith) (etc_by_cpi_lem above (le_trans h (mul-le-mul_right under (lit≤ tt))))

  -- ETC by CPI * SPI, four roundings: |ETC − exact| ≤ 1 / 2 + |exact| * 4 / (2 ^ 53 − 4)
  pub etc_by_cpi_spi_lem : Small e.planned → Above (times (CPI e) (SPI e)) → UpToLimit (etc_by_cpi_spi e) → HalfAnd 4 (2 ^ 53 - 4) (etc CpiSpi e) (etc_by_cpi_spi e)
  unfolding spi
  etc_by_cpi_spi_lem planned above =
      by_cpi_spi e fits_left (small_fits e.earned earned) (small_fits e.actual actual) (small_fits e.planned planned)
      (2 ^ 53) (2 ^ 53 - 1) (2 ^ 53 - 3) (2 ^ 53 - 4) 4 (one_more tt tt) (one_more tt tt) refl (exact_within (e.budget -ℤ e.earned) left)
      (cpi_within (first_pos (nat_abs e.actual) (nat_abs e.planned) above.under))
      (small_ratio_within e.earned e.planned (not_zero e.planned (second_pos (nat_abs e.actual) (nat_abs e.planned) above.under)) earned planned) above

-- ---- for all numbers of 64 bits: each amount is rounded too
module _ (e : Earned) (left : SFits w64 (e.budget -ℤ e.earned)) (earned : SFits w64 e.earned) (actual : SFits w64 e.actual) where
  cpi_within_all : 0 < nat_abs e.actual → Within (2 ^ 53 - 3) (or_nought (cpi e)) (CPI e).sign (nat_abs e.earned) (nat_abs e.actual)
  unfolding cpi
  cpi_within_all some = ratio_within e.earned e.actual earned actual (not_zero e.actual some)

  -- |ETC − exact| ≤ 1 / 2 + |exact| * 5 / (2 ^ 53 − 5)
  pub etc_by_cpi_all : Above (CPI e) → UpToLimit (etc_by_cpi e) → HalfAnd 5 (2 ^ 53 - 5) (etc Cpi e) (etc_by_cpi e)
  etc_by_cpi_all above =
      by_cpi e left earned actual (2 ^ 53 - 1) (2 ^ 53 - 3) (2 ^ 53 - 5) 5 (one_more tt tt) refl
      (nearest_within (e.budget -ℤ e.earned) left) (cpi_within_all above.under) above

  -- |ETC − exact| ≤ 1 / 2 + |exact| * 9 / (2 ^ 53 − 9)
  pub etc_by_cpi_spi_all : SFits w64 e.planned → Above (times (CPI e) (SPI e)) → UpToLimit (etc_by_cpi_spi e) → HalfAnd 9 (2 ^ 53 - 9) (etc CpiSpi e) (etc_by_cpi_spi e)
  unfolding spi
  etc_by_cpi_spi_all planned above =
      by_cpi_spi e left earned actual planned (2 ^ 53 - 1) (2 ^ 53 - 3) (2 ^ 53 - 7) (2 ^ 53 - 9) 9 (one_more tt tt) (one_more tt tt) refl
      (nearest_within (e.budget -ℤ e.earned) left) (cpi_within_all (first_pos (nat_abs e.actual) (nat_abs e.planned) above.under))
      (ratio_within e.earned e.planned earned planned (not_zero e.planned (second_pos (nat_abs e.actual) (nat_abs e.planned) above.under))) above
