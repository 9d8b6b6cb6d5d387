-- `put_stretch` meets its contract: the points that the call leaves, or nothing where the book is refused. Assumes nothing.
use native.Mathlib.Omega.{arith}
use mathlib.Core.Path.{◌∙◌}
use borrow.Author.Rules.{rules}
use Rattle.report.proofs.Calls.{curve_few, curve_accepted, curve_lines, curve_refused}
use Rattle.report.proofs.Pages.{curve_page, refused_pages}
use Rattle.report.proofs.put_stretch.Goals as goal

pub put_points-requires : goal.put_points-requires
put_points-requires c =
    let few = curve_few _ _ _ c.planned_curve-reply.ensures c.in-Ok.is in
    record {
      count_in_bounds = search (rules, few);
      count_in_bounds_2 = search (rules, few);
    }

pub returns-in-Ok : goal.returns-in-Ok
returns-in-Ok c =
    let put = c.put_points in
    let call = c.planned_curve-reply.ensures in
    let e = c.in-Ok.is in
    record {
      upper_bound = omega (arith, put.ensures.upper_bound, curve_few _ _ _ call e);
      out_after = put.ensures.out_after ∙ curve_lines _ _ _ call e ∙ curve_page _ (curve_accepted _ _ _ call e).1 _ _ _ (search rules) (search rules);
    }

pub returns-in-Err : goal.returns-in-Err
returns-in-Err c =
    let call = c.planned_curve-reply.ensures in
    record {
      upper_bound = search rules;
      out_after = refused_pages _ (curve_refused _ _ _ call (search rules) (search rules) (search rules) (search rules) c.in-Err.is) _;
    }
