-- `twelve_months` meets its contract: a refused book, a sum outside 64 bits, or what is answered with its rows.
use mathlib.Core.List.{[]}
use mathlib.Core.Path.{refl}
use borrow.Author.Rules.{rules}
use Rattle.answers.specs.Calls.{sums_asked}
use Rattle.answers.proofs.Replies.{still_refused, call_refused, call_tested}
use Rattle.engine.proofs.twelve_months.Goals as goal

pub returns-in_err-opened : goal.returns-in_err-opened
returns-in_err-opened c = call_refused _ _ _ _ (still_refused c.open.ensures c.in_err-opened.was sums_asked refl) refl (search rules)

pub twelve_months_of-requires : goal.twelve_months_of-requires
twelve_months_of-requires c = c.open.ensures.opens _ c.in_ok-opened.was

pub returns : goal.returns
returns c = call_tested [] _ _ _ sums_asked c.open.ensures c.in_ok-opened.was c.twelve_months_of.ensures
