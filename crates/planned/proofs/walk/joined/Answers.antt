-- `joined` meets its contract: by whether a date works, and whether the first is up to the date.
use native.Mathlib.Omega.{arith}
use Rattle.planned.specs.Walked.{both_of}
use Rattle.planned.proofs.Walking.{some_listed, first_early, first_late}
use Rattle.planned.proofs.walk.joined.Goals as goal

pub overflow_add-listed : goal.overflow_add-listed
overflow_add-listed c = let few = c.requires in omega (arith, few.0.working, few.1.working)

pub overflow_add-tested : goal.overflow_add-tested
overflow_add-tested c = let few = c.requires in omega (arith, few.0.tested, few.1.tested)

pub returns-then-listed-gt0 : goal.returns-then-listed-gt0
returns-then-listed-gt0 c = let a = c.args in some_listed (both_of a.early a.late) a.date a.first (omega arith)

pub returns-then-first-date : goal.returns-then-first-date
returns-then-first-date c = let a = c.args in first_early (both_of a.early a.late) a.date a.first (omega arith) (omega arith)

pub returns : goal.returns
returns c = let a = c.args in first_late (both_of a.early a.late) a.date a.first (omega arith) (omega arith)
