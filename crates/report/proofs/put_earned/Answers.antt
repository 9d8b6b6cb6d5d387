-- `put_earned` meets its contract: the rows that the call leaves, or the refusal of the book. Assumes nothing.
use native.Mathlib.Omega.{arith}
use Prim.Native.Nat.{ℕ}
use mathlib.Core.Path.{ap, ◌∙◌}
use borrow.Author.Rules.{rules}
use Rattle.report.specs.Lines.{refusal_line}
use Rattle.report.proofs.Calls.{earned_in_lem, earned_refused}
use Rattle.report.proofs.Pages.{refused_page}
use Rattle.report.proofs.put_earned.Goals as goal

pub put_accepted-requires : goal.put_accepted-requires
put_accepted-requires c =
    record {
      earned_in = earned_in_lem _ (λ i. omega (arith, c.type_inv.book i)) c.asked_date-day.ensures c.earned_value-reply.ensures (search rules) (search rules) c.in-Ok.is;
      in_bounds = search rules;
    }

pub returns-in-Err : goal.returns-in-Err
returns-in-Err c =
    let refused = earned_refused _ (λ i. omega (arith, c.type_inv.book i)) c.asked_date-day.ensures c.earned_value-reply.ensures (search rules) c.in-Err.is in
    record {
      upper_bound = search rules;
      out_after = c.put_refusal.ensures.out_after ∙ ap (λ (n : ℕ). refusal_line n c.in-Err.refusal.place) c.from.ensures ∙ refused_page _ refused;
    }
