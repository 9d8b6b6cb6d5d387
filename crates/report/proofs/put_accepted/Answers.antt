-- `put_accepted` meets its contract: the lines of the activities, then the total. Assumes nothing.
use borrow.Author.Rules.{rules}
use Rattle.report.proofs.Pages.{accepted_page}
use Rattle.report.proofs.put_accepted.Goals as goal

pub returns : goal.returns
returns c =
    let rows = c.put_activities-end in
    record {
      upper_bound = search rules;
      out_after = accepted_page (search rules) rows.ensures.out_after c.put_total.ensures.out_after;
    }
