-- `cumulative` meets its contract: the first shares of the magnitude in closed form, with the sign put back. Assumes nothing.
use Rattle.std.proofs.Common.{◌≡◌, ℕ, ◌+◌, ◌*◌, ◌/◌, ◌%◌, ◌≤◌, min, nat_abs, sym, ap, ◌∙◌, subst, arith, to_z-of_z, w64, SFits}
use Rattle.integer.specs.Linear.{linear, within, abs}
use Rattle.integer.specs.Signs.{like, like_is, like_fits}
use Rattle.money.proofs.Spread.{parts, parts_le, sum_like}
use Rattle.money.proofs.shares.cumulative.Goals as goal
use Rattle.money.proofs.shares.cumulative.Goals.{After-unsigned_abs-m, After-min}

magnitude_is : (c : After-unsigned_abs-m) → c.unsigned_abs-m.result ≡ nat_abs c.args.amount
magnitude_is c = c.unsigned_abs-m.ensures.value ∙ ap nat_abs (to_z-of_z c.ranges.amount)

-- the sum on the magnitude is at most the magnitude, and so fits
sum_le : (c : After-unsigned_abs-m) → parts c.unsigned_abs-m.result c.args.n c.args.k ≤ nat_abs c.args.amount
sum_le c =
    omega (arith, parts_le c.unsigned_abs-m.result c.args.n c.args.k c.requires.0 c.requires.1, magnitude_is c)

first_is : (c : After-min) → c.min.result ≡ min c.args.k (c.unsigned_abs-m.result % c.args.n)
first_is c = c.min.ensures

pub overflow_mul-k : goal.overflow_mul-k
overflow_mul-k c = omega (linear, sum_le (goal.at.overflow_mul-k c).After-unsigned_abs-m, within c.ranges.amount, abs c.args.amount)

pub overflow_add-k : goal.overflow_add-k
overflow_add-k c =
    omega (linear, first_is (goal.at.overflow_add-k c).After-min, sum_le (goal.at.overflow_add-k c).After-unsigned_abs-m, within c.ranges.amount, abs c.args.amount)

sum_is : (c : After-min) → c.args.k * (c.unsigned_abs-m.result / c.args.n) + c.min.result ≡ parts c.unsigned_abs-m.result c.args.n c.args.k
sum_is c = omega (arith, first_is c)

pub with_sign-requires : goal.with_sign-requires
with_sign-requires c =
    subst (SFits w64) (sym (like_is c.ranges.amount _))
    (like_fits c.ranges.amount (subst (λ (m : ℕ). m ≤ nat_abs c.args.amount) (sym (sum_is (goal.at.with_sign-requires c).After-min)) (sum_le (goal.at.with_sign-requires c).After-unsigned_abs-m)))

pub returns : goal.returns
returns c =
    to_z-of_z {w = w64} (record { sfits = c.with_sign.type_inv }) ∙ c.with_sign.ensures ∙ like_is c.ranges.amount _
    ∙ ap (like c.args.amount) (sum_is (goal.at.returns c).After-min ∙ ap (λ (m : ℕ). parts m c.args.n c.args.k) (magnitude_is (goal.at.returns c).After-unsigned_abs-m))
    ∙ sym (sum_like c.args.amount c.args.n c.args.k)
