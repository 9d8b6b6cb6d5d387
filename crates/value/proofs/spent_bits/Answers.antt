-- `spent_bits` meets its contract: by whether there is a share.
use mathlib.Core.Path.{◌≡◌, sym, ap, ap₂, ◌∙◌}
use lib.IntN.{ℤ}
use mir.Syntax.{w64}
use borrow.Author.Rules.{rules}
use Rattle.std.specs.Prelude.{Option, Some, option_map}
use Rattle.integer.specs.Linear.{back}
use Rattle.money.specs.Words.{bits}
use Rattle.money.specs.Scale.{spent_of}
use Rattle.model.specs.Earned.{spent_in}
use Rattle.value.proofs.spent_bits.Goals as goal
use Rattle.value.proofs.spent_bits.Goals.{After-spent}

-- the share of the row's figures
share : (c : After-spent) → c.spent.result ≡ spent_in c.args.e
share c =
    let told = c.struct_told-1.given in
    let e = c.args.e in
    c.spent.ensures ∙ ap₂ spent_of (back w64 e.actual told.1.1.1.0.1) (back w64 e.budget told.0.1)

pub returns-in-None : goal.returns-in-None
returns-in-None c =
    ap (λ (x : Option ℤ). option_map bits x) (sym c.in-None.is) ∙ ap (option_map bits) (share (goal.at.returns-in-None c).After-spent)

pub returns-in-Some : goal.returns-in-Some
returns-in-Some c =
    ap Some (c.to_bits.ensures ∙ ap bits (back w64 c.in-Some.share c.in-Some.known_told-1-own.given.0.1))
    ∙ ap (λ (x : Option ℤ). option_map bits x) (sym c.in-Some.is)
    ∙ ap (option_map bits) (share (goal.at.returns-in-Some c).After-spent)
