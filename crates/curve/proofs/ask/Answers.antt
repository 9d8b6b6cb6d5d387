-- `ask` meets its contract, date by date.
use Prim.Native.Nat.{ℕ}
use mathlib.Core.Path.{ap₂}
use Rattle.curve.specs.declared.Asked.{Asked}
use Rattle.curve.proofs.ask.Goals as goal

pub returns : goal.returns
returns c =
    let s = c.args in
    ap₂ (λ (from to : ℕ). let asked : Asked = record { reach = s.reach; from = from; to = to } in asked) c.max.ensures c.min.ensures
