-- `actual_from` meets its contract: the first of the dates that is there, where the activity is started.
use Rattle.std.specs.Prelude.{unwrap_or}
use mathlib.Core.Path.{◌∙◌, ap, sym}
use mathlib.Core.Bool.{Bool, cond}
use Prim.Native.Nat.{ℕ}
use Rattle.records.specs.Decoded.{activity_of}
use Rattle.spans.proofs.Dates.{first_given}
use Rattle.spans.proofs.bounds.actual_from.Goals as goal
use Rattle.std.specs.Option.{option_or}

pub returns-then-is_started : goal.returns-then-is_started
unfolding activity_of
returns-then-is_started c =
    let a = c.args.activity in
    let started = a.started in
    let finished = a.finished in
    c.number_or-then-is_started.ensures
    ∙ ap (λ (d : ℕ). unwrap_or started d) c.number_or.ensures
    ∙ first_given started finished 0
    ∙ sym (ap (λ (b : Bool). cond b (unwrap_or (option_or started finished) 0) 0) (sym c.is_started.ensures ∙ c.if-is_started.true))

pub returns : goal.returns
unfolding activity_of
returns c =
    let a = c.args.activity in
    sym (ap (λ (b : Bool). cond b (unwrap_or (option_or a.started a.finished) 0) 0) (sym c.is_started.ensures ∙ c.if-is_started.false))
