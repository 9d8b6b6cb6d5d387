-- `open` meets its contract: what the layout says of an accepted book.
use borrow.Author.Rules.{rules}
use mathlib.Core.Path.{sym, ap, ◌∙◌}
use native.Mathlib.Omega.{arith}
use Rattle.book.proofs.Plan.{plan_of, ledger_of, technique_of_lem, forecast_of_lem}
use Rattle.answers.proofs.Replies.{opened_so, refused_so}
use Rattle.answers.proofs.open.open.Goals as goal

pub returns-in_err-layout : goal.returns-in_err-layout
returns-in_err-layout c = refused_so (sym (ap (λ v. v.1) c.read_layout-layout.ensures.0) ∙ c.in_err-layout.was) (search rules)

pub returns : goal.returns
returns c =
    let s = c.args.book.now in
    let read = c.read_layout-layout in
    let layout = read.ensures.1 in
    let accepted = sym (ap (λ v. v.1) read.ensures.0) ∙ c.in_ok-layout.was in
    opened_so
    (record {
      accepted = (_, accepted);
      plan = plan_of s read.result layout _ accepted (λ i. omega (arith, c.type_inv.book i));
      ledger = ledger_of s read.result layout;
      technique = technique_of_lem s read.result layout;
      forecast = forecast_of_lem s read.result layout;
    })
