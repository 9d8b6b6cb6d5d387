-- `put_line` meets its contract: its ten numbers.
use native.Mathlib.Omega.{arith}
use mathlib.Core.Path.{ap, ◌∙◌}
use lib.ListN.{length}
use lib.Seq.{sets}
use Rattle.ledger.specs.Lines.{line_of}
use Rattle.ledger.proofs.Lined.{row_long}
use borrow.Author.Rules.{rules}
use Rattle.ledger.proofs.lines.put_line.Goals as goal

pub put_row-requires : goal.put_row-requires
put_row-requires c =
    omega (arith, c.requires, ap length c.row_of-row.ensures, row_long (line_of c.args.line))

pub returns : goal.returns
returns c =
    c.put_row.ensures ∙ ap (sets c.args.out.now c.args.at) c.row_of-row.ensures
