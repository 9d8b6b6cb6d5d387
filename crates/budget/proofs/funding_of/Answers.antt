-- `funding_of` meets its contract: too short a slice, or the two numbers.
use native.Mathlib.Omega.{arith}
use mathlib.Core.Path.{◌≡◌, sym, ap, ap₂, ◌∙◌}
use mir.Syntax.{w64}
use Rattle.integer.specs.Linear.{back}
use Rattle.integer.specs.Folds.{saturated}
use Rattle.format.specs.Verdict.{content}
use Rattle.money.specs.Words.{bits}
use Rattle.model.specs.Forecast.{less}
use Rattle.model.specs.Budgets.{funded, not_covered}
use Rattle.answers.specs.Rows.{funding_rows}
use Rattle.answers.proofs.Sized.{no_room}
use Rattle.budget.proofs.Sized.{funding_sized, funding_put}
use borrow.Author.Rules.{rules}
use Rattle.budget.proofs.funding_of.Goals as goal

pub returns-then-out-lt2 : goal.returns-then-out-lt2
returns-then-out-lt2 c =
    no_room (funding_rows (content c.args.book.now)) _ (funding_sized _) (omega (arith, c.if-out-lt2.true))

pub returns : goal.returns
unfolding funded not_covered
returns c =
    let left = c.saturating_sub in
    let first = c.to_bits in
    let project = c.project_current-current in
    let book = content c.args.book.now in
    let sum : c.sum_amounts-funded.result ≡ funded book = c.sum_amounts-funded.ensures ∙ sym (ap (saturated w64 _) c.requires.ledger.funds) in
    let seen-sum = back w64 c.sum_amounts-funded.result c.sum_amounts-funded.type_inv ∙ sum in
    funding_put book c.args.out.now _ _ (first.ensures ∙ ap bits seen-sum)
    (c.to_bits-2.ensures
    ∙ ap bits
    (back w64 left.result left.type_inv ∙ left.ensures ∙ ap₂ less (back w64 project.result project.type_inv ∙ project.ensures) seen-sum))
    (omega (arith, c.if-out-lt2.false))
