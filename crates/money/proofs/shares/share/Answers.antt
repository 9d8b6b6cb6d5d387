-- `share` meets its contract: it divides the magnitude and puts the sign back. Assumes nothing.
use Rattle.std.proofs.Common.{◌≡◌, ℕ, ◌≤◌, nat_abs, sym, ap, ◌∙◌, subst, arith, to_z-of_z, w64, SFits}
use Rattle.integer.specs.Linear.{linear, within, abs}
use Rattle.integer.specs.Signs.{like, like_is, like_fits}
use Rattle.money.proofs.Spread.{part, part_le, part_then, part_else, share_like}
use Rattle.money.proofs.shares.share.Goals as goal
use Rattle.money.proofs.shares.share.Goals.{After-unsigned_abs-m, Joined-k-m, else-k-m, then-k-m}

magnitude_is : (c : After-unsigned_abs-m) → c.unsigned_abs-m.result ≡ nat_abs c.args.amount
magnitude_is c = c.unsigned_abs-m.ensures.value ∙ ap nat_abs (to_z-of_z c.ranges.amount)

-- the share of the magnitude is at most the magnitude
each_le : (c : After-unsigned_abs-m) → part c.unsigned_abs-m.result c.args.n c.args.k ≤ nat_abs c.args.amount
each_le c =
    omega (arith, part_le c.unsigned_abs-m.result c.args.n c.args.k c.requires, magnitude_is c)

pub overflow_add-each : goal.overflow_add-each
overflow_add-each c =
    omega (linear, each_le (goal.at.overflow_add-each c).After-unsigned_abs-m, part_then c.unsigned_abs-m.result c.args.n c.args.k (omega arith), within c.ranges.amount, abs c.args.amount)

each_is : (c : Joined-k-m) → c.if-k-m.each ≡ part c.unsigned_abs-m.result c.args.n c.args.k
each_is c =
    elim c.if-k-m.branch [ then-k-m w ↦ w.each-is ∙ part_then c.unsigned_abs-m.result c.args.n c.args.k (omega arith) | else-k-m w ↦ w.each-is ∙ part_else c.unsigned_abs-m.result c.args.n c.args.k (omega arith) ]

pub with_sign-requires : goal.with_sign-requires
with_sign-requires c =
    subst (SFits w64) (sym (like_is c.ranges.amount c.if-k-m.each))
    (like_fits c.ranges.amount (subst (λ (m : ℕ). m ≤ nat_abs c.args.amount) (sym (each_is (goal.at.with_sign-requires c).Joined-k-m)) (each_le (goal.at.with_sign-requires c).After-unsigned_abs-m)))

pub returns : goal.returns
returns c =
    to_z-of_z {w = w64} (record { sfits = c.with_sign.type_inv }) ∙ c.with_sign.ensures ∙ like_is c.ranges.amount c.if-k-m.each
    ∙ ap (like c.args.amount) (each_is (goal.at.returns c).Joined-k-m ∙ ap (λ (m : ℕ). part m c.args.n c.args.k) (magnitude_is (goal.at.returns c).After-unsigned_abs-m))
    ∙ sym (share_like c.args.amount c.args.n c.args.k)
