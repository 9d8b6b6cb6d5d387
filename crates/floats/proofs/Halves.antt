-- Halves away from zero, as the code works them out: one more than twice the fraction cut, halved. Assumes nothing.
use Rattle.std.proofs.Common.{◌≡◌, ℕ, suc, ◌+◌, ◌-◌, ◌*◌, ◌/◌, ◌%◌, ◌<◌, ◌≤◌, Bool, true, false, cond, eqb, ltb, sym, refl, ap, ◌∙◌, mod-lt, div-add-mod', arith, ltb-false, ltb-true}
use lib.Arith.{digits_div}
use Rattle.floats.specs.Rounding.{halfway, rounded}

-- all that the code needs of the tie rule
halfway_is : (s : Bool) (q : ℕ) → halfway s q ≡ suc q
halfway_is s q = omega arith

half_of_even : (q : ℕ) → q ≡ (q * 2 + 1) / 2
half_of_even q = omega arith

half_of_odd : (q : ℕ) → suc q ≡ (q * 2 + 1 + 1) / 2
half_of_odd q = omega arith

-- ---- twice a / c, cut, where a is q times c and r
low_half : (a c q r : ℕ) → q * c + r ≡ a → r * 2 < c → a * 2 / c ≡ q * 2
low_half a c q r e h =
    let v : q * 2 * c + r * 2 ≡ a * 2 = omega arith in
    ap (λ (x : ℕ). x / c) (sym v) ∙ digits_div (q * 2) h

high_half : (a c q r : ℕ) → q * c + r ≡ a → r < c → c ≤ r * 2 → a * 2 / c ≡ q * 2 + 1
high_half a c q r e k h =
    let t : r * 2 - c < c = omega arith in
    let v : (q * 2 + 1) * c + (r * 2 - c) ≡ a * 2 = omega arith in
    ap (λ (x : ℕ). x / c) (sym v) ∙ digits_div (q * 2 + 1) t

pub rounded_is : (s : Bool) (a c : ℕ) → 0 < c → rounded s a c ≡ (a * 2 / c + 1) / 2
unfolding rounded
rounded_is s a c some = go (ltb (a % c * 2) c) (eqb (a % c * 2) c) refl
  where
    odd : ltb (a % c * 2) c ≡ false → a * 2 / c ≡ a / c * 2 + 1
    odd h = high_half a c (a / c) (a % c) (div-add-mod' a c) (mod-lt a some) (ltb-false (a % c * 2) c h)

    go : (b t : Bool) → ltb (a % c * 2) c ≡ b → cond b (a / c) (cond t (halfway s (a / c)) (suc (a / c))) ≡ (a * 2 / c + 1) / 2
    go true t h =
        rw (low_half a c (a / c) (a % c) (div-add-mod' a c) (ltb-true (a % c * 2) c h)) (half_of_even (a / c))
    go false true h = rw (odd h) (halfway_is s (a / c) ∙ half_of_odd (a / c))
    go false false h = rw (odd h) (half_of_odd (a / c))
