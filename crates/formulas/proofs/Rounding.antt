-- What rounding to binary64 does to a fraction: it gives the nearest of all floats, and in the normal range one at most 2 ^ -53 of the fraction away. Assumes nothing.
use mathlib.Core.Path.{◌≡◌, sym, ap, ◌∙◌, subst}
use mathlib.Core.Bool.{not}
use mathlib.Core.Logic.{◌≢◌, ◌⊎◌, inl, inr}
use Prim.Native.Nat.{ℕ, suc, ◌+◌, ◌-◌, ◌*◌, ◌/◌, ◌%◌, ◌^◌, ◌≤◌, ◌<◌, compare, Ordering}
use native.Mathlib.Nat.{le_trans, le_of_eq, le_of_lt, mod-lt, div-add-mod', mul_comm, mul_assoc, mul-le-mul_right, mul-one, mul-pos, mul-lt-mul_of_pos_right, lt_of_lt_of_le, le-div_iff_mul-le, div-div-eq-div-mul, eq-zero-or-pos}
use native.Mathlib.Decide.{dec_lt}
use native.Mathlib.Omega.{arith}
use lib.Dec.{T, lit<, is_le, compare_is_eq, eqb, leb→le, nleb→lt, eqb→eq, eqb_refl}
use lib.Pow.{pow-add, pow_pos, pow_mono, shl_lt}
use lib.Ieee.{size, nearest}
use lib.Ieee.Digits.{size_reaches, back}
use lib.Ieee.Fits.{nearest-le, kept-lt}
use lib.Ieee.Nearest.{closest}
use lib.Ieee.Order.{drop, kept}
use Rattle.floats.specs.Rounding.{Near}
use Rattle.formulas.proofs.Distance.{distance}

-- ---- to whole numbers: `closest a c` is at most a half away from a / c
case_near : (o : Ordering) (q r a c : ℕ) → q * c + r ≡ a → r < c
    → (T (is_le o) → r * 2 ≤ c) → (T (not (is_le o)) → c < r * 2) → (T (compare_is_eq o) → r * 2 ≡ c) → Near (nearest q o) a c
case_near Ordering.lt q r a c e l h k t = let f : r * 2 ≤ c = h tt in record { most = omega arith; least = omega arith }
case_near Ordering.eq q r a c e l h k t =
    let f : r * 2 ≡ c = t tt in
    let b : (q + q % 2) * c ≤ suc q * c = mul-le-mul_right c (omega arith) in
    record { most = omega arith; least = omega arith }
case_near Ordering.gt q r a c e l h k t = let f : c < r * 2 = k tt in record { most = omega arith; least = omega arith }

pub closest_near : (a c : ℕ) → 0 < c → Near (closest a c) a c
closest_near a c some =
    let r = a % c in
    case_near (compare (r * 2) c) (a / c) r a c (div-add-mod' a c) (mod-lt a some) (leb→le (r * 2) c) (nleb→lt (r * 2) c) (eqb→eq (r * 2) c)

-- and even where it is just a half away
case_even : (o : Ordering) (q r a c : ℕ) → q * c + r ≡ a → r < c → (T (not (is_le o)) → c < r * 2) → (r * 2 ≡ c → T (compare_is_eq o))
    → distance (nearest q o * c) a * 2 ≡ c → nearest q o % 2 ≡ 0
case_even Ordering.lt q r a c e l k t d = absurd (t (omega arith))
case_even Ordering.eq q r a c e l k t d = omega arith
case_even Ordering.gt q r a c e l k t d =
    let f : c < r * 2 = k tt in
    let g : distance (suc q * c) a ≡ c - r = omega arith in
    absurd (omega arith)

pub closest_even : (a c : ℕ) → 0 < c → distance (closest a c * c) a * 2 ≡ c → closest a c % 2 ≡ 0
closest_even a c some =
    let r = a % c in
    case_even (compare (r * 2) c) (a / c) r a c (div-add-mod' a c) (mod-lt a some) (nleb→lt (r * 2) c) (λ (e : r * 2 ≡ c). subst (λ (x : ℕ). T (eqb (r * 2) x)) e (eqb_refl (r * 2)))

-- so no whole number w is nearer
pub near_least : (k w a c : ℕ) → Near k a c → distance (k * c) a ≤ distance (w * c) a
near_least k w a c n = go (dec_lt w k) (dec_lt k w)
  where
    go : Dec (w < k) → Dec (k < w) → distance (k * c) a ≤ distance (w * c) a
    go (yes l) t = let m : suc w * c ≤ k * c = mul-le-mul_right c l in omega (arith, n.most, n.least)
    go (no l) (yes g) = let m : suc k * c ≤ w * c = mul-le-mul_right c g in omega (arith, n.most, n.least)
    go (no l) (no g) = let e : k ≡ w = omega arith in le_of_eq (ap (λ (x : ℕ). distance (x * c) a) e)

pub near_half : (k a c : ℕ) → Near k a c → distance (k * c) a * 2 ≤ c
near_half k a c n = go (dec_lt a (k * c))
  where
    go : Dec (a < k * c) → distance (k * c) a * 2 ≤ c
    go (yes l) = let e : distance (k * c) a ≡ k * c - a = omega arith in omega (arith, n.most)
    go (no l) = let e : distance (k * c) a ≡ a - k * c = omega arith in omega (arith, n.least)

-- and another is as near only where both are just a half away
pub near_tie : (k w a c : ℕ) → Near k a c → w ≢ k → distance (w * c) a ≤ distance (k * c) a → distance (k * c) a * 2 ≡ c
near_tie k w a c n other h = go (dec_lt w k)
  where
    go : Dec (w < k) → distance (k * c) a * 2 ≡ c
    go (yes l) = let m : suc w * c ≤ k * c = mul-le-mul_right c l in omega (arith, near_half k a c n)
    go (no l) = let m : suc k * c ≤ w * c = mul-le-mul_right c (omega arith) in omega (arith, near_half k a c n)

-- below n, the smaller number is farther from it
farther : {d x y : ℕ} (n : ℕ) → d ≤ distance y n → x ≤ y → y ≤ n → d ≤ distance x n
farther n a b c = omega arith

never : {d x y : ℕ} (n : ℕ) → distance x n ≤ d → d ≤ distance y n → x < y → y ≤ n → ⊥
never n a b c e = omega arith

-- ---- to 53 digits: of the whole part of n / den `place` digits are dropped, so that n is measured in units of den * 2 ^ place
module _ (n den : ℕ) (some : 0 < den) where
  abbrev place : ℕ
  place = drop 53 n den

  abbrev unit : ℕ
  unit = den * 2 ^ place

  abbrev digits : ℕ
  digits = kept 53 n den

  unit_pos : 0 < unit
  unit_pos = mul-pos some (pow_pos place)

  near : Near digits n unit
  near = closest_near n unit unit_pos

  in_units : (w : ℕ) → w * unit ≡ w * 2 ^ place * den
  in_units w = ap (λ (x : ℕ). w * x) (mul_comm den (2 ^ place)) ∙ sym (mul_assoc w (2 ^ place) den)

  -- where digits are dropped, n is 2 ^ 52 units at least
  full : 0 < place → 2 ^ 52 * unit ≤ n
  full h =
      let z = size (n / den) in
      let l : 2 ^ (52 + place) ≤ n / den = size_reaches (n / den) (52 + place) (omega arith) in
      le_trans (le_of_eq (in_units (2 ^ 52) ∙ ap (λ (x : ℕ). x * den) (sym (pow-add 2 52 place)))) ((le-div_iff_mul-le some).0 l)

  pub at_most_53 : digits ≤ 2 ^ 53
  at_most_53 =
      le_trans (nearest-le (n / unit) (compare (n % unit * 2) unit))
      (subst (λ (x : ℕ). x < 2 ^ 53) (div-div-eq-div-mul n den (2 ^ place)) (kept-lt 53 (n / den)))

  shifted : (m j : ℕ) → place ≤ j → m * 2 ^ (j - place) * 2 ^ place ≡ m * 2 ^ j
  shifted m j h =
      mul_assoc m (2 ^ (j - place)) (2 ^ place) ∙ ap (λ (x : ℕ). m * x) (sym (pow-add 2 (j - place) place) ∙ ap (λ (x : ℕ). 2 ^ x) (back j place h))

  pub at_most_twice : digits * 2 ^ place * den ≤ n * 2 + den
  at_most_twice = subst (λ (x : ℕ). x ≤ n * 2 + den) (in_units digits) (go (eq-zero-or-pos place))
    where
      double : (x u : ℕ) → x * 2 ≤ n * 2 + u → u ≤ n + den → x ≤ n * 2 + den
      double x u h l = omega arith

      go : (place ≡ 0) ⊎ (0 < place) → digits * unit ≤ n * 2 + den
      go (inl e) = double (digits * unit) unit near.most (le_trans (le_of_eq (ap (λ (k : ℕ). den * 2 ^ k) e ∙ mul-one den)) (omega arith))
      go (inr l) = double (digits * unit) unit near.most (omega (arith, full l))

  -- none of the numbers m * 2 ^ j with m < 2 ^ 53 is nearer
  pub nearest_of_all : (m j : ℕ) → m < 2 ^ 53 → distance (digits * 2 ^ place * den) n ≤ distance (m * 2 ^ j * den) n
  nearest_of_all m j small = subst (λ (x : ℕ). distance x n ≤ distance (m * 2 ^ j * den) n) (in_units digits) (go (dec_lt j place))
    where
      go : Dec (j < place) → distance (digits * unit) n ≤ distance (m * 2 ^ j * den) n
      go (yes l) =
          let a : distance (digits * unit) n ≤ distance (2 ^ 52 * unit) n = near_least digits (2 ^ 52) n unit near in
          let f : 2 ^ 52 * unit ≤ n = full (omega arith) in
          let b : m * 2 ^ j ≤ 2 ^ 52 * 2 ^ place = le_trans (le_of_lt (shl_lt 53 j small)) (le_trans (pow_mono (omega arith)) (le_of_eq (pow-add 2 52 place))) in
          let c : m * 2 ^ j * den ≤ 2 ^ 52 * unit = le_trans (mul-le-mul_right den b) (le_of_eq (sym (in_units (2 ^ 52)))) in
          farther n a c f
      go (no l) =
          let w = m * 2 ^ (j - place) in
          let e = shifted m j (omega arith) in
          subst (λ (x : ℕ). distance (digits * unit) n ≤ distance x n) (in_units w ∙ ap (λ (x : ℕ). x * den) e) (near_least digits w n unit near)

  -- and where n / den has 53 digits before the point, or is 0, it is at most 2 ^ -53 of it away
  pub close_to : (0 < n → 2 ^ 52 * den ≤ n) → distance (digits * 2 ^ place * den) n * 2 ^ 53 ≤ n
  close_to normal = go (eq-zero-or-pos n)
    where
      enough : 0 < n → (place ≡ 0) ⊎ (0 < place) → 2 ^ 52 * unit ≤ n
      enough h (inl e) = subst (λ (k : ℕ). 2 ^ 52 * (den * 2 ^ k) ≤ n) (sym e) (le_trans (le_of_eq (ap (λ (x : ℕ). 2 ^ 52 * x) (mul-one den))) (normal h))
      enough h (inr l) = full l

      half : (d u : ℕ) → d * 2 ≤ u → 2 ^ 52 * u ≤ n → d * 2 ^ 53 ≤ n
      half d u a b = omega arith

      go : (n ≡ 0) ⊎ (0 < n) → distance (digits * 2 ^ place * den) n * 2 ^ 53 ≤ n
      go (inl e) = let z : distance (digits * 2 ^ place * den) n ≤ distance (0 * 2 ^ 0 * den) n = nearest_of_all 0 0 (lit< tt) in omega arith
      go (inr h) = subst (λ (x : ℕ). distance x n * 2 ^ 53 ≤ n) (in_units digits) (half (distance (digits * unit) n) unit (near_half digits n unit near) (enough h (eq-zero-or-pos place)))

  -- ---- where another such number is as near, the digits are even
  pub tie_even : (m j : ℕ) → m < 2 ^ 53 → m * 2 ^ j ≢ digits * 2 ^ place → distance (m * 2 ^ j * den) n ≤ distance (digits * 2 ^ place * den) n → digits % 2 ≡ 0
  tie_even m j small other h = go (dec_lt j place)
    where
      h' : distance (m * 2 ^ j * den) n ≤ distance (digits * unit) n
      h' = subst (λ (x : ℕ). distance (m * 2 ^ j * den) n ≤ distance x n) (sym (in_units digits)) h

      go : Dec (j < place) → digits % 2 ≡ 0
      go (yes l) =
          let a : distance (digits * unit) n ≤ distance (2 ^ 52 * unit) n = near_least digits (2 ^ 52) n unit near in
          let b : m * 2 ^ j < 2 ^ 52 * 2 ^ place = lt_of_lt_of_le (shl_lt 53 j small) (le_trans (pow_mono (omega arith)) (le_of_eq (pow-add 2 52 place))) in
          let c : m * 2 ^ j * den < 2 ^ 52 * unit = lt_of_lt_of_le (mul-lt-mul_of_pos_right b some) (le_of_eq (sym (in_units (2 ^ 52)))) in
          absurd (never n h' a c (full (omega arith)))
      go (no l) =
          let w = m * 2 ^ (j - place) in
          let e = shifted m j (omega arith) in
          closest_even n unit unit_pos
          (near_tie digits w n unit near (λ (f : w ≡ digits). other (sym e ∙ ap (λ (x : ℕ). x * 2 ^ place) f))
          (subst (λ (x : ℕ). distance x n ≤ distance (digits * unit) n) (sym (in_units w ∙ ap (λ (x : ℕ). x * den) e)) h'))
