-- `actual_to` meets its contract: the finish, else the day before.
use Rattle.std.specs.Prelude.{unwrap_or}
use mathlib.Core.Path.{◌∙◌, ap}
use Prim.Native.Nat.{ℕ}
use Rattle.spans.proofs.Dates.{finish_given}
use Rattle.spans.proofs.bounds.actual_to.Goals as goal

pub returns : goal.returns
returns c =
    let finished = c.args.finished in
    c.number_or.ensures
    ∙ ap (λ (d : ℕ). unwrap_or finished d) c.day_before.ensures
    ∙ finish_given finished c.args.date c.args.from
