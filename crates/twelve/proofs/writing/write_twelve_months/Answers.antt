-- `write_twelve_months` meets its contract: no rows without a listed month, else one for each.
use native.Mathlib.Omega.{arith}
use Rattle.answers.proofs.Sized.{nothing_there}
use Rattle.answers.proofs.Replies.{puts_if}
use Rattle.twelve.proofs.Largest.{rows_sized, none_words}
use Rattle.twelve.proofs.writing.write_twelve_months.Goals as goal

pub returns-then-listed-eq0 : goal.returns-then-listed-eq0
returns-then-listed-eq0 c =
    let w = c.listed_months-listed.ensures in
    puts_if (none_words w c.if-listed-eq0.true) (nothing_there _ _ (rows_sized w) c.if-listed-eq0.true)

pub write_in-requires : goal.write_in-requires
write_in-requires c =
    let w = c.listed_months-listed.ensures in
    record { days_value = c.first_days-days.ensures; has_reach = (c.requires, w); count_bound = (omega (arith, c.if-listed-eq0.false), omega arith, omega arith) }

pub write_in-requires-2 : goal.write_in-requires-2
write_in-requires-2 c =
    let w = c.listed_months-listed.ensures in
    record { days_value = c.first_days-days.ensures; has_reach = (c.requires, w); count_bound = (omega (arith, c.if-listed-eq0.false), omega (arith, w.most), omega arith) }

pub listed_months-listed-requires : goal.listed_months-listed-requires
listed_months-listed-requires c = record { days_value = c.first_days-days.ensures; has_reach = c.requires }
