-- What rounding to a nearest whole number keeps, whatever the tie rule: bounds, whole numbers, and zero. Assumes nothing.
use Rattle.std.proofs.Common.{◌≡◌, ℕ, suc, ◌+◌, ◌*◌, ◌/◌, ◌%◌, ◌<◌, ◌≤◌, min, Bool, true, false, cond, eqb, ltb, sym, refl, le_of_eq, mul-le-mul_right, mod-lt, le_antisymm, lt_of_mul-lt-mul_right, div-add-mod', arith, ltb-false, ltb-true, eqb-true}
use Rattle.floats.specs.Rounding.{halfway, rounded, Near, limit}

-- the tie rule chooses one of the two numbers: all that these laws need of it
halfway_between : (s : Bool) (q : ℕ) → (q ≤ halfway s q) × (halfway s q ≤ suc q)
halfway_between false q = omega arith
halfway_between true q = omega arith

-- ---- a / c is q and r / c: each case of `rounded`
low_near : (q r a c : ℕ) → q * c + r ≡ a → r * 2 < c → Near q a c
low_near q r a c e h = record { most = omega arith; least = omega arith }

tie_near : (k q r a c : ℕ) → q * c + r ≡ a → r * 2 ≡ c → (q ≤ k) × (k ≤ suc q) → Near k a c
tie_near k q r a c e h b =
    let l : q * c ≤ k * c = mul-le-mul_right c b.0 in
    let m : k * c ≤ suc q * c = mul-le-mul_right c b.1 in
    record { most = omega arith; least = omega arith }

high_near : (q r a c : ℕ) → q * c + r ≡ a → r < c → c ≤ r * 2 → Near (suc q) a c
high_near q r a c e l h = record { most = omega arith; least = omega arith }

pub rounded_near : (s : Bool) (a c : ℕ) → 0 < c → Near (rounded s a c) a c
unfolding rounded
rounded_near s a c some = go (ltb (a % c * 2) c) (eqb (a % c * 2) c) refl refl
  where
    go : (b t : Bool) → ltb (a % c * 2) c ≡ b → eqb (a % c * 2) c ≡ t
        → Near (cond b (a / c) (cond t (halfway s (a / c)) (suc (a / c)))) a c
    go true t h k = low_near (a / c) (a % c) a c (div-add-mod' a c) (ltb-true (a % c * 2) c h)
    go false true h k =
        tie_near (halfway s (a / c)) (a / c) (a % c) a c (div-add-mod' a c) (eqb-true (a % c * 2) c k) (halfway_between s (a / c))
    go false false h k = high_near (a / c) (a % c) a c (div-add-mod' a c) (mod-lt a some) (ltb-false (a % c * 2) c h)

-- ---- a whole number on one side of the fraction is on that side of what the fraction is rounded to
pub near_least : (n k a c : ℕ) → 0 < c → n * c ≤ a → Near k a c → n ≤ k
near_least n k a c some h near =
    let l : n * 2 * c < (k * 2 + 2) * c = omega (arith, near.least) in
    omega (arith, lt_of_mul-lt-mul_right c l)

pub near_most : (n k a c : ℕ) → 0 < c → a ≤ n * c → Near k a c → k ≤ n
near_most n k a c some h near =
    let l : k * 2 * c < (n * 2 + 2) * c = omega (arith, near.most) in
    omega (arith, lt_of_mul-lt-mul_right c l)

-- so a whole number is rounded to itself, and zero to zero
pub near_whole : (n k a c : ℕ) → 0 < c → a ≡ n * c → Near k a c → k ≡ n
near_whole n k a c some e near =
    le_antisymm (near_most n k a c some (le_of_eq e) near) (near_least n k a c some (le_of_eq (sym e)) near)

module _ (s : Bool) (a c : ℕ) (some : 0 < c) where
  pub rounded_whole : (n : ℕ) → a ≡ n * c → rounded s a c ≡ n
  rounded_whole n e = near_whole n (rounded s a c) a c some e (rounded_near s a c some)

  -- ---- up to the limit nothing is clamped, and from there on the limit stands
  pub below_limit : a ≤ limit * c → min (rounded s a c) limit ≡ rounded s a c
  below_limit h = omega (arith, near_most limit (rounded s a c) a c some h (rounded_near s a c some))

  pub above_limit : limit * c ≤ a → min (rounded s a c) limit ≡ limit
  above_limit h = omega (arith, near_least limit (rounded s a c) a c some h (rounded_near s a c some))

  pub zero_stays : a ≡ 0 → min (rounded s a c) limit ≡ 0
  zero_stays e = omega (arith, rounded_whole 0 (omega arith))
