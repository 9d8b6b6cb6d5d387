-- `floats::whole` meets its contract: the magnitude of x or of -x, with the sign put back. Assumes nothing.
use Rattle.std.proofs.Common.{ℕ, ◌≤◌, pos, neg_ℤ, sym, ap, ◌∙◌, subst, le_trans, le_of_eq, to_z-of_z, w64, SFits}
use lib.Ieee.{of_bits}
use Rattle.floats.specs.Rounding.{limit}
use Rattle.floats.proofs.Doubling.{whole_below, whole_above, part_le}
use Rattle.floats.proofs.Words.{pos_fits, neg_fits, as_signed, from_zero}
use Rattle.floats.proofs.whole.Goals as goal
use Rattle.floats.proofs.whole.Goals.{After-magnitude, After-magnitude-2}

small : (c : After-magnitude) → c.magnitude.result ≤ limit
small c = le_trans (le_of_eq c.magnitude.ensures) (part_le _)

pub overflow_sub-result : goal.overflow_sub-result
overflow_sub-result c = subst (SFits w64) (sym (from_zero c.magnitude.result (small (goal.at.overflow_sub-result c).After-magnitude))) (neg_fits c.magnitude.result (small (goal.at.overflow_sub-result c).After-magnitude))

pub returns-then-x : goal.returns-then-x
unfolding of_bits
returns-then-x c =
    to_z-of_z {w = w64} (overflow_sub-result c)
    ∙ from_zero c.magnitude.result (small (goal.at.returns-then-x c).After-magnitude)
    ∙ ap (λ (n : ℕ). neg_ℤ (pos n)) c.magnitude.ensures
    ∙ whole_below c.args.x c.if-x.true

small_2 : (c : After-magnitude-2) → c.magnitude-2.result ≤ limit
small_2 c = le_trans (le_of_eq c.magnitude-2.ensures) (part_le _)

pub returns : goal.returns
unfolding of_bits
returns c =
    as_signed (small_2 (goal.at.returns c).After-magnitude-2) ∙ ap pos c.magnitude-2.ensures ∙ whole_above c.args.x c.if-x.false

pub overflow_cast-result : goal.overflow_cast-result
overflow_cast-result c = pos_fits (small c)

pub overflow_cast-result-2 : goal.overflow_cast-result-2
overflow_cast-result-2 c = pos_fits (small_2 c)
