-- `put_forecast` meets its contract: the estimates, then the indices.
use mathlib.Core.Path.{ap₂, ◌∙◌}
use mathlib.Core.List.{List}
use Prim.Native.Nat.{ℕ}
use lib.Seq.{sets}
use Rattle.model.specs.declared.Indices.{Indices}
use Rattle.answers.specs.Rows.{indices_row}
use Rattle.forecast.proofs.Put.{row_put}
use borrow.Author.Rules.{rules}
use Rattle.forecast.proofs.put_forecast.Goals as goal

pub returns : goal.returns
returns c =
    c.put_indices.ensures
    ∙ ap₂ (λ (out : List ℕ) (x : Indices). sets out 3 (indices_row x)) c.put_estimates.ensures c.indices.ensures
    ∙ row_put c.args.technique c.args.e c.args.out.now c.requires
