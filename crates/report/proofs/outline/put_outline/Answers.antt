-- `put_outline` meets its contract: the rows that the call leaves, or the refusal of the book. Assumes nothing.
use native.Mathlib.Omega.{arith}
use Prim.Native.Nat.{ℕ}
use mathlib.Core.Path.{ap, ◌∙◌}
use borrow.Author.Rules.{rules}
use Rattle.format.specs.Bytes.{Bytes}
use Rattle.report.specs.Lines.{refusal_line}
use Rattle.report.proofs.Calls.{outline_few, outline_room, outline_lines_lem, outline_refused}
use Rattle.report.proofs.outline.put_outline.Goals as goal

pub put_outline_rows-requires : goal.put_outline_rows-requires
put_outline_rows-requires c =
    let bytes : Bytes c.args.book.now = λ i. omega (arith, c.type_inv.book i) in
    let asked = c.asked_date-day.ensures in record {
      outline_width_in_bounds = outline_room _ bytes asked c.outline-reply.ensures c.in-Ok.is (search rules);
      count_in_bounds = omega (arith, outline_few _ bytes asked c.outline-reply.ensures c.in-Ok.is, c.requires);
    }

pub returns-in-Ok : goal.returns-in-Ok
returns-in-Ok c =
    let bytes : Bytes c.args.book.now = λ i. omega (arith, c.type_inv.book i) in
    let asked = c.asked_date-day.ensures in record {
      upper_bound = omega (arith, c.put_outline_rows.ensures.upper_bound, outline_few _ bytes asked c.outline-reply.ensures c.in-Ok.is);
      out_after = c.put_outline_rows.ensures.out_after ∙ outline_lines_lem _ bytes asked c.outline-reply.ensures c.in-Ok.is;
    }

pub returns-in-Err : goal.returns-in-Err
returns-in-Err c =
    record {
      upper_bound = search rules;
      out_after = c.put_refusal.ensures.out_after ∙ ap (λ (n : ℕ). refusal_line n c.in-Err.refusal.place) c.from.ensures ∙ outline_refused _ (λ i. omega (arith, c.type_inv.book i)) c.asked_date-day.ensures c.outline-reply.ensures (search rules) c.in-Err.is;
    }
