-- `take_line` meets its contract: where the line counts, its five numbers are set.
use mathlib.Core.Path.{◌∙◌}
use borrow.Author.Rules.{rules}
use Rattle.records.specs.Decoded.{baseline_line_of}
use Rattle.baseline.proofs.Taking.{taken_set, taken_past}
use Rattle.baseline.proofs.lines.take_line.Goals as goal

pub returns-then-counts : goal.returns-then-counts
unfolding baseline_line_of
returns-then-counts c =
    c.put_row.ensures
    ∙ taken_set c.args.last c.args.out.now (baseline_line_of c.args.line) c.counts.ensures c.if-counts.true c.to_bits.result (search rules)

pub returns-else-counts : goal.returns-else-counts
unfolding baseline_line_of
returns-else-counts c =
    taken_past c.args.last c.args.out.now (baseline_line_of c.args.line) c.counts.ensures c.if-counts.false
