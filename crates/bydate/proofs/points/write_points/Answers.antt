-- `write_points` meets its contract: the rows where they fit.
use native.Mathlib.Omega.{arith}
use Rattle.bydate.specs.Pointed.{points_in}
use Rattle.bydate.proofs.Writing.{points_short, points_put}
use Rattle.bydate.proofs.points.write_points.Goals as goal

pub returns-then-out-n : goal.returns-then-out-n
returns-then-out-n c =
    let s = c.args in
    points_short (points_in s.base s.table.now s.from s.to) s.out.now (omega (arith, c.if-out-n.true, c.put_points-n.ensures.value))

pub returns : goal.returns
returns c = points_put _ _ c.put_points-n.ensures.value (omega (arith, c.if-out-n.false)) c.put_points.ensures.out_after
