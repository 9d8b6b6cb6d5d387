-- `deal_of` meets its contract, field by field.
use mathlib.Core.Path.{◌≡◌, ap, ap₂, ◌∙◌}
use Prim.Native.Nat.{ℕ, ◌%◌}
use lib.IntN.{ℤ, nat_abs}
use mir.Syntax.{w64}
use mir.Facts.{to_z-of_z}
use Rattle.integer.specs.Linear.{back, seen}
use Rattle.money.specs.Shares.{share_of}
use Rattle.laid.specs.declared.deal.Deal.{Deal}
use Rattle.laid.proofs.deal.deal_of.Goals as goal

pub returns : goal.returns
returns c =
    let z = to_z-of_z c.ranges.amount in
    let deal : ℕ → ℤ → ℤ → Deal = λ n x y. record { left = n; early = x; late = y } in
    let left : c.unsigned_abs.result % c.args.n ≡ nat_abs c.args.amount % c.args.n = ap (λ (m : ℕ). m % c.args.n) (c.unsigned_abs.ensures.value ∙ ap nat_abs z) in
    let early = back w64 c.share-early.result c.share-early.type_inv ∙ c.share-early.ensures ∙ ap (λ (x : ℤ). share_of x c.args.n 0) z in
    let late = back w64 c.share-late.result c.share-late.type_inv ∙ c.share-late.ensures ∙ ap₂ (λ (x : ℤ) (k : ℕ). share_of x c.args.n k) z left in
    ap₂ (λ (n : ℕ) (x : ℤ). deal n x (seen w64 c.share-late.result)) left early ∙ ap (deal (nat_abs c.args.amount % c.args.n) (share_of c.args.amount c.args.n 0)) late
