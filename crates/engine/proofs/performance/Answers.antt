-- `performance` meets its contract: a refused book or call, or what is answered with its rows.
use borrow.Author.Rules.{rules}
use Rattle.answers.proofs.Replies.{asked_in_book, asked_so, call_answered, call_refused}
use Rattle.engine.proofs.performance.Goals as goal

pub returns-in_err-opened : goal.returns-in_err-opened
returns-in_err-opened c = call_refused _ _ _ _ c.open_on.ensures c.in_err-opened.was (search rules)

pub performance_of-requires : goal.performance_of-requires
performance_of-requires c =
    let asked = asked_so c.open_on.ensures c.in_ok-opened.was in
    record { opened = c.open_on.ensures.opens _ c.in_ok-opened.was; activity_lt_count = asked_in_book asked }

pub returns : goal.returns
returns c = call_answered _ _ _ _ c.open_on.ensures c.in_ok-opened.was c.performance_of.ensures
