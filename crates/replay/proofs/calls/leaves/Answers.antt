-- `leaves` is safe: what is lent is a part of the numbers. Assumes nothing.
use mathlib.Core.Path.{sym}
use lib.Seq.{length-take-le}
use borrow.Author.Rules.{rules}
use Rattle.replay.proofs.calls.leaves.Goals as goal

pub slice_bounds-fills-end : goal.slice_bounds-fills-end
slice_bounds-fills-end c = sym (length-take-le _ _ (search rules))
