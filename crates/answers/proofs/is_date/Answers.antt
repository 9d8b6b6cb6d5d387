-- `is_date` meets its contract.
use mathlib.Core.Path.{refl}
use native.Mathlib.Omega.{arith}
use borrow.Author.Tests.{le-leb, lt-leb}
use Rattle.answers.specs.Calls.{is_date}
use Rattle.answers.proofs.is_date.Goals as goal

pub returns-then-day-lt10957 : goal.returns-then-day-lt10957
unfolding is_date
returns-then-day-lt10957 c =
    rw (lt-leb 10957 c.args.day c.if-day-lt10957.true) refl

pub returns : goal.returns
unfolding is_date
returns c =
    rw (le-leb 10957 c.args.day (omega (arith, c.if-day-lt10957.false))) refl
