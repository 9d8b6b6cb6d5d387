-- `write_sums` meets its contract: 11 where a sum is not of 64 bits, else the rows.
use native.Mathlib.Omega.{arith}
use mathlib.Core.Path.{sym, ◌∙◌}
use Rattle.answers.proofs.Replies.{puts_if, puts_failed}
use Rattle.twelve.proofs.Windows.{listed_long_lem}
use Rattle.twelve.proofs.writing.write_sums.Goals as goal

pub returns-then-not-twelve_sums : goal.returns-then-not-twelve_sums
returns-then-not-twelve_sums c = puts_failed (sym c.twelve_sums.ensures.words ∙ c.if-not-twelve_sums.true)

pub put_fitting-requires : goal.put_fitting-requires
put_fitting-requires c =
    let long = c.twelve_sums.auto.sums in
    record { days_value = c.requires.days_value; sums_bound = (omega (arith, c.requires.has_reach.1.most, long), omega (arith, c.requires.sums_nonzero, long)) }

pub returns : goal.returns
returns c =
    let summed = c.twelve_sums.ensures in
    puts_if (sym summed.words ∙ c.if-not-twelve_sums.false) (c.put_fitting.ensures _ (listed_long_lem c.requires.has_reach.1 (sym c.twelve_sums.auto.sums)) (summed.filled c.if-not-twelve_sums.false))
