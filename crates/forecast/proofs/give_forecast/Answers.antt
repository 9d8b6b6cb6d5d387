-- `give_forecast` meets its contract: too short a slice, or the row.
use borrow.Author.Rules.{rules}
use native.Mathlib.Omega.{arith}
use mathlib.Core.Path.{sym, ◌∙◌}
use lib.Seq.{length-take-le}
use Rattle.answers.proofs.Sized.{no_room, in_front, one_numbers}
use Rattle.forecast.proofs.Rowed.{forecast_sized}
use Rattle.forecast.proofs.give_forecast.Goals as goal

pub returns-then-out-lt9 : goal.returns-then-out-lt9
returns-then-out-lt9 c = no_room _ _ (forecast_sized _ _) (omega (arith, c.if-out-lt9.true))

pub slice_bounds-put_forecast-end-2 : goal.slice_bounds-put_forecast-end-2
slice_bounds-put_forecast-end-2 c = sym (length-take-le 9 c.args.out.now (omega (arith, c.if-out-lt9.false)))

pub put_forecast-requires : goal.put_forecast-requires
put_forecast-requires c = sym (slice_bounds-put_forecast-end-2 c)

pub returns : goal.returns
returns c =
    in_front _ _ (forecast_sized _ _) (omega (arith, c.if-out-lt9.false)) _ (c.put_forecast.ensures ∙ sym (one_numbers _))
