-- `percent_at` meets its contract: by the first of the two numbers.
use Rattle.std.specs.Prelude.{Some}
use mathlib.Core.Path.{ap, ◌∙◌}
use lib.IntN.{ℤ}
use mir.Syntax.{w64}
use Rattle.integer.specs.Linear.{back}
use Rattle.activities.proofs.Scheduling.{percent_given_lem}
use Rattle.activities.proofs.schedule.percent_at.Goals as goal

pub returns-then-entry-eq0 : goal.returns-then-entry-eq0
returns-then-entry-eq0 c = rw (← c.entry.ensures, c.if-entry-eq0.true)

pub returns : goal.returns
returns c =
    rw (← c.entry.ensures, ← c.entry-2.ensures)
    (ap (λ (z : ℤ). Some z) (back w64 c.from_bits.result c.from_bits.type_inv ∙ c.from_bits.ensures)
    ∙ percent_given_lem c.entry.result c.entry-2.result c.if-entry-eq0.false)
