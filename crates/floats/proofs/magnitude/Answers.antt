-- `floats::magnitude` meets its contract: between the two tests twice x is exact, and cut it is below 2 ^ 64. Assumes nothing.
use Rattle.std.proofs.Common.{ℕ, ◌+◌, ◌/◌, ap, ◌∙◌, arith}
use denote.Floats.{passes}
use lib.Ieee.{of_bits}
use Rattle.floats.proofs.Doubling.{Middle, middle, twice_range, twice_fits, twice_is, at_limit, not_above}
use Rattle.floats.proofs.magnitude.Goals as goal
use Rattle.floats.proofs.magnitude.Goals.{Then-x-2}

pub returns-then-x : goal.returns-then-x
unfolding of_bits
returns-then-x c = omega (arith, at_limit c.args.x c.if-x.true)

between : (c : Then-x-2) → Middle c.args.x
unfolding of_bits
between c = middle c.args.x (passes _ c.well_formed.0.1) c.if-x.false c.if-x-2.true

pub truncating_f64_to_u64-requires : goal.truncating_f64_to_u64-requires
truncating_f64_to_u64-requires c =
    unfold of_bits in
    let r = twice_range c.args.x (between (goal.at.truncating_f64_to_u64-requires c).Then-x-2) in
    record { lower_bound = r.0; upper_bound = r.1 }

pub overflow_add-result : goal.overflow_add-result
overflow_add-result c = unfold of_bits in omega (arith, twice_fits c.args.x (between (goal.at.overflow_add-result c).Then-x-2), c.truncating_f64_to_u64.ensures)

pub returns-then-x-2 : goal.returns-then-x-2
returns-then-x-2 c = unfold of_bits in ap (λ (n : ℕ). (n + 1) / 2) c.truncating_f64_to_u64.ensures ∙ twice_is c.args.x (between (goal.at.returns-then-x-2 c).Then-x-2)

pub returns : goal.returns
unfolding of_bits
returns c = omega (arith, not_above c.args.x c.if-x-2.false)
