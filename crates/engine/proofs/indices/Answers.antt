-- `indices` meets its contract: a refused book or call, or what is answered with its rows.
use borrow.Author.Rules.{rules}
use Rattle.answers.proofs.Replies.{asked_in_book, asked_so, call_answered, call_refused}
use Rattle.engine.proofs.indices.Goals as goal

pub returns-in_err-opened : goal.returns-in_err-opened
returns-in_err-opened c = call_refused _ _ _ _ c.open_for.ensures c.in_err-opened.was (search rules)

pub indices_of-requires : goal.indices_of-requires
indices_of-requires c =
    let asked = asked_so c.open_for.ensures c.in_ok-opened.was in
    record { opened = c.open_for.ensures.opens _ c.in_ok-opened.was; activity_lt_count = asked_in_book asked }

pub returns : goal.returns
returns c = call_answered _ _ _ _ c.open_for.ensures c.in_ok-opened.was c.indices_of.ensures
