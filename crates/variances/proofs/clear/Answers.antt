-- `clear` meets its contract: every number is 0.
use Prim.Native.Nat.{ℕ}
use mathlib.Core.Path.{ap, ◌∙◌}
use mathlib.Core.List.{List}
use lib.ListN.{length, get_or}
use Rattle.variances.proofs.Cleared.{zeros_filled}
use Rattle.variances.proofs.clear.Goals as goal

pub returns : goal.returns
returns c = λ i. ap (λ (t : List ℕ). get_or t i 0) (c.fill.ensures.after (λ y e. e)) ∙ zeros_filled (length c.args.out.now) i
