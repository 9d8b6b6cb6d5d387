-- `holidays::is_awareness` meets its contract.
-- Assumes nothing.
use lib.IntN.{pos}
use lib.Signed.{le_z}
use borrow.Author.Tests.{eq-eqb, ne_eqb}
use Rattle.gregorian.proofs.Counts.{tested}
use Rattle.holidays.specs.Holiday.{is_awareness}
use mathlib.Core.Path.{refl}
use Rattle.holidays.proofs.is_awareness.Goals as goal

pub returns-then-month-eq11 : goal.returns-then-month-eq11
unfolding is_awareness
returns-then-month-eq11 c =
    simp (tested (le_z (pos 2024)) c.ranges.year refl c.if-year-ge2024.true, eq-eqb c.args.month 11 c.if-month-eq11.true)

pub returns-else-month-eq11 : goal.returns-else-month-eq11
unfolding is_awareness
returns-else-month-eq11 c =
    simp (tested (le_z (pos 2024)) c.ranges.year refl c.if-year-ge2024.true, ne_eqb c.args.month 11 c.if-month-eq11.false)

pub returns-else-year-ge2024 : goal.returns-else-year-ge2024
unfolding is_awareness
returns-else-year-ge2024 c = rw (tested (le_z (pos 2024)) c.ranges.year refl c.if-year-ge2024.false) c.if-year-ge2024.false
