-- `reach_of` meets its contract: the stretch covers the listed spans.
use Prim.Native.Nat.{ℕ, ◌*◌}
use mathlib.Core.Path.{sym, ap, ◌∙◌}
use native.Mathlib.Omega.{arith}
use Rattle.format.specs.Verdict.{content}
use Rattle.format.proofs.Theorems.{content_in_range}
use Rattle.baseline.proofs.Listing.{listed_long_lem, budgets_long_lem, listed_dated, listed_spans, listed_covers}
use Rattle.planned.proofs.reach_of.Goals as goal

pub stretch_of-known-requires : goal.stretch_of-known-requires
stretch_of-known-requires c =
    let b = content c.args.book.now in
    let w = c.requires.listed_value in
    let range = content_in_range c.args.book.now c.requires.opened.plan.accepted in
    record {
      table_len = (listed_long_lem b w.0 ∙ sym (ap (λ (n : ℕ). n * 3) (budgets_long_lem b w.1)), omega arith);
      dated_spans = listed_spans c.args.listed.now (listed_dated b w.0 range);
    }

pub returns : goal.returns
returns c =
    let plan = c.requires.opened.plan in
    record {
      accepted = plan.accepted;
      calendars = plan.calendars;
      spans = c.requires.listed_value.0;
      budgeted = c.requires.listed_value.1;
      covers = listed_covers c.args.listed.now c.stretch_of-known.ensures;
    }
