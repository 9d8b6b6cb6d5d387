-- `unstarted` meets its contract: by the technique.
use mathlib.Core.Path.{refl, ap, ◌∙◌}
use lib.Ieee.{of_bits}
use mir.Syntax.{w64}
use borrow.Author.Rules.{rules}
use Rattle.integer.specs.Linear.{back}
use Rattle.floats.specs.Figures.{share_of}
use Rattle.earned.proofs.performance.unstarted.Goals as goal

pub returns-in-Physical : goal.returns-in-Physical
returns-in-Physical c =
    let percent = c.amount_or_zero in
    rw c.in-Physical.is (c.share.ensures ∙ ap share_of (back w64 percent.result percent.type_inv ∙ percent.ensures))

pub returns-in-Duration : goal.returns-in-Duration
unfolding of_bits
returns-in-Duration c = rw c.in-Duration.is refl

pub returns-in-Units : goal.returns-in-Units
unfolding of_bits
returns-in-Units c = rw c.in-Units.is refl

pub returns-in-ZeroHundred : goal.returns-in-ZeroHundred
unfolding of_bits
returns-in-ZeroHundred c = rw c.in-ZeroHundred.is refl

pub returns-in-FiftyFifty : goal.returns-in-FiftyFifty
unfolding of_bits
returns-in-FiftyFifty c = rw c.in-FiftyFifty.is refl

pub returns-in-Custom : goal.returns-in-Custom
unfolding of_bits
returns-in-Custom c = rw c.in-Custom.is refl
