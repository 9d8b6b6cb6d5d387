-- `put_line` meets its contract: the level, the index, and the row of earned value behind them.
use native.Mathlib.Omega.{arith}
use mathlib.Core.Path.{◌∙◌}
use lib.ListN.{length-set}
use borrow.Author.Rules.{rules}
use Rattle.value.proofs.Reading.{two_length, line_set}
use Rattle.value.proofs.lines.put_line.Goals as goal

pub put_earned-requires : goal.put_earned-requires
put_earned-requires c =
    let a = c.args in
    omega (arith, c.requires, two_length a.out.now a.at a.level a.index)

pub shape_of-out : goal.shape_of-out
shape_of-out c =
    let a = c.args in
    c.out-1.given ∙ two_length a.out.now a.at a.level a.index

pub returns : goal.returns
returns c =
    let a = c.args in
    line_set a.out.now a.at a.level a.index a.e c.put_earned.ensures

pub bounds-out-at-2 : goal.bounds-out-at-2
bounds-out-at-2 c = omega (arith, c.requires, length-set c.args.out.now c.args.at c.args.level)
