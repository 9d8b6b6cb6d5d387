-- `line_of` meets its contract: the steps of the walk are counted.
use Rattle.std.specs.Prelude.{Some}
use Prim.Native.Nat.{ℕ, ◌+◌, ◌*◌}
use native.Mathlib.Omega.{arith}
use mathlib.Core.Path.{ap, ap₂, ◌∙◌}
use lib.ListN.{length}
use mir.Syntax.{w64}
use Rattle.integer.specs.Linear.{back}
use Rattle.tree.specs.Figures.{parents_of, figure_of}
use Rattle.ledger.specs.Lines.{line_in, activity_line}
use Rattle.ledger.proofs.Lined.{made_most}
use Rattle.ledger.proofs.lines.line_of.Goals as goal

pub overflow_add-steps : goal.overflow_add-steps
overflow_add-steps c =
    omega (arith, c.walk_up-steps.ensures, made_most (parents_of c.args.parents.now) (length c.args.parents.now) c.args.i, c.requires)

pub returns : goal.returns
unfolding activity_line
returns c =
    c.line_at.ensures
    ∙ ap₂ (line_in c.args.accounts.now (Some c.args.i)) (ap (λ (k : ℕ). 1 + k) c.walk_up-steps.ensures) (back w64 (figure_of c.args.costs.now (c.args.i * 3)) c.scheduled-1.given)
