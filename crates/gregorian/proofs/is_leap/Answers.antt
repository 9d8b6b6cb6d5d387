-- `gregorian::is_leap` meets its contract.
-- Assumes nothing.
use Prim.Native.Nat.{◌%◌}
use mathlib.Core.Path.{sym}
use mathlib.Core.Bool.{or-false}
use lib.Dec.{eqb}
use borrow.Author.Tests.{eq-eqb, ne_eqb}
use Rattle.gregorian.specs.Calendar.{is_leap}
use Rattle.gregorian.proofs.Leap.{by100, by4}
use Rattle.gregorian.proofs.is_leap.Goals as goal

pub returns-then-year-ne0 : goal.returns-then-year-ne0
unfolding is_leap
returns-then-year-ne0 c =
    let y = c.args.year in
    simp (eq-eqb (y % 4) 0 c.if-year-eq0.true, ne_eqb (y % 100) 0 c.if-year-ne0.true, ne_eqb (y % 400) 0 (λ h. c.if-year-ne0.true (by100 y h)))

pub returns-else-year-ne0 : goal.returns-else-year-ne0
unfolding is_leap
returns-else-year-ne0 c =
    let y = c.args.year in
    simp (eq-eqb (y % 4) 0 c.if-year-eq0.true, eq-eqb (y % 100) 0 c.if-year-ne0.false) (sym (or-false (eqb (y % 400) 0)))

pub returns-else-year-eq0 : goal.returns-else-year-eq0
unfolding is_leap
returns-else-year-eq0 c =
    let y = c.args.year in
    simp (ne_eqb (y % 4) 0 c.if-year-eq0.false, ne_eqb (y % 400) 0 (λ h. c.if-year-eq0.false (by4 y (by100 y h))))
