-- `fill_variances` meets its contract: without a line zeros, else from the lines.
use borrow.Author.Rules.{rules}
use mathlib.Core.Path.{◌∙◌}
use Rattle.baseline.proofs.Listing.{lines_are}
use Rattle.variances.proofs.Varying.{rows_blank}
use Rattle.variances.proofs.fill_variances.Goals as goal

pub returns-then-lines-eq0 : goal.returns-then-lines-eq0
returns-then-lines-eq0 c =
    let lines = lines_are c.requires.opened.plan c.requires.opened.ledger.baseline _ (c.lines_of-lines.ensures _ _) in
    rows_blank lines c.if-lines-eq0.true (c.out-1.given ∙ c.requires.out_len) c.clear.ensures

pub take_lines-requires : goal.take_lines-requires
take_lines-requires c =
    let lines = lines_are c.requires.opened.plan c.requires.opened.ledger.baseline _ (c.lines_of-lines.ensures _ _) in
    record { lines = lines; out_len = (c.out-1.given ∙ c.requires.out_len, c.clear.ensures) }

pub vary_lines-requires : goal.vary_lines-requires
vary_lines-requires c =
    record { plan_of = c.requires.opened.plan; out_value = c.take_lines.ensures }
