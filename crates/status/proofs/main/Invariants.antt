-- `main` is safe and ends: the book is a part of what was read, and what is written is a page. Assumes nothing.
use mathlib.Core.Path.{◌≡◌}
use lib.ListN.{length}
use Rattle.status.proofs.main.Given as goal

abbrev pub invariant-loop-page : goal.invariant-loop-page
invariant-loop-page l = length l.text ≡ 524288
