-- `put_refusal` meets its contract: a line that a word leads. Assumes nothing.
use native.Mathlib.Omega.{arith}
use borrow.Author.Rules.{rules}
use Rattle.report.specs.Lines.{refusal_line}
use Rattle.report.proofs.lines.put_refusal.Goals as goal

pub returns : goal.returns
unfolding refusal_line
returns c = let line = c.put_line in record {
  upper_bound = omega (arith, line.ensures.upper_bound);
  out_after = line.ensures.out_after;
}
