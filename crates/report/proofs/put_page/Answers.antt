-- `put_page` meets its contract: the first page, or a stretch of the curve. Assumes nothing.
use Prim.Native.Nat.{suc, ◌-◌}
use native.Mathlib.Omega.{arith}
use mathlib.Core.Path.{◌≡◌, sym, ap, ◌∙◌}
use borrow.Author.Rules.{rules}
use Rattle.report.specs.Status.{status_page}
use Rattle.report.proofs.put_page.Goals as goal

pub returns-then-page-eq0 : goal.returns-then-page-eq0
returns-then-page-eq0 c =
    let put = c.put_earned in
    record {
      upper_bound = search rules;
      out_after = put.ensures.out_after ∙ ap (status_page _) (sym c.if-page-eq0.true);
    }

pub returns : goal.returns
returns c =
    let put = c.put_stretch in
    let page = c.args.page in
    let next : suc (page - 1) ≡ page = omega (arith, c.if-page-eq0.false) in
    record {
      upper_bound = search rules;
      out_after = put.ensures.out_after ∙ ap (status_page _) next;
    }
