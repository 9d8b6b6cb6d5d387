-- `under_way` meets its contract: by the technique.
use mathlib.Core.Path.{refl, ap, ◌∙◌}
use lib.Ieee.{of_bits}
use mir.Syntax.{w64}
use mir.Facts.{to_z-of_z}
use borrow.Author.Rules.{rules}
use Rattle.integer.specs.Linear.{back}
use Rattle.floats.specs.Figures.{share_of, clamp01_of}
use Rattle.earned.proofs.performance.under_way.Goals as goal

pub returns-in-Physical : goal.returns-in-Physical
returns-in-Physical c =
    let percent = c.amount_or_zero in
    rw c.in-Physical.is (c.share.ensures ∙ ap share_of (back w64 percent.result percent.type_inv ∙ percent.ensures))

pub returns-in-Duration : goal.returns-in-Duration
returns-in-Duration c = rw c.in-Duration.is (c.clamp01.ensures ∙ ap clamp01_of c.by_duration.ensures)

pub returns-in-Units : goal.returns-in-Units
returns-in-Units c =
    rw c.in-Units.is
    (c.clamp01-in-Units.ensures ∙ ap clamp01_of (c.unwrap_or.ensures ∙ rw (c.ratio.ensures, c.by_duration-in-Units.ensures, to_z-of_z c.ranges.done, to_z-of_z c.ranges.all) refl))

pub returns-in-ZeroHundred : goal.returns-in-ZeroHundred
unfolding of_bits
returns-in-ZeroHundred c = rw c.in-ZeroHundred.is refl

pub returns-in-FiftyFifty : goal.returns-in-FiftyFifty
unfolding of_bits
returns-in-FiftyFifty c = rw c.in-FiftyFifty.is refl

pub returns-in-Custom : goal.returns-in-Custom
returns-in-Custom c = rw c.in-Custom.is (c.share-in-Custom.ensures ∙ ap share_of (back w64 _ c.in-Custom.known_told-1-own.given.0.1))
