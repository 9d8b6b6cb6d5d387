-- `largest_at` meets its contract: the largest so far.
use mathlib.Core.Path.{◌≡◌}
use native.Mathlib.Omega.{arith}
use lib.ListN.{length}
use mir.Syntax.{w64}
use Rattle.integer.specs.Linear.{linear, back}
use Rattle.twelve.specs.Largest.{sum_at}
use Rattle.twelve.proofs.Largest.{largest_first, largest_kept, largest_next}
use borrow.Author.Rules.{rules}
use Rattle.twelve.proofs.writing.largest_at.Goals as goal
use Rattle.twelve.proofs.writing.largest_at.Goals.{then-sums-largest, else-sums-largest}

-- what the test compares are the two sums
pub loop-k-preserved : goal.loop-k-preserved
loop-k-preserved c =
    let sums = c.args.sums.now in
    let best = back w64 (sum_at sums c.loop-k.largest) (search rules) in
    let next = back w64 (sum_at sums c.loop-k.k) (search rules) in
    elim c.if-sums-largest.branch [
      | then-sums-largest w ↦ (omega arith, rw w.largest-is (largest_next c.loop-k.invariant.1 (omega (linear, w.if-sums-largest.true, best, next))))
      | else-sums-largest w ↦ (omega arith, rw w.largest-is (largest_kept c.loop-k.invariant.1 (omega (linear, w.if-sums-largest.false, best, next))))
    ]

pub returns : goal.returns
returns c = let all : c.loop-k.k ≡ length c.args.sums.now = omega (arith, c.loop-k.invariant.0) in rw (← all) c.loop-k.invariant.1

pub loop-k-init : goal.loop-k-init
loop-k-init c = (c.requires, largest_first _)

pub bounds-sums-largest : goal.bounds-sums-largest
bounds-sums-largest c = omega (arith, c.loop-k.invariant.1.inside)

pub bounds-sums-k : goal.bounds-sums-k
bounds-sums-k c = omega arith
