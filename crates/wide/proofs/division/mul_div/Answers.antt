-- `mul_div` meets its contract, by the size of the product's high word. Assumes nothing.
use mathlib.Core.Path.{◌≡◌, ◌∙◌}
use native.Mathlib.Omega.{arith}
use Prim.Native.Nat.{◌+◌, ◌-◌, ◌*◌, ◌/◌, min}
use Rattle.wide.specs.Words.{word}
use Rattle.wide.proofs.Quotients.{none, one_word, too_large, fitting}
use Rattle.wide.proofs.division.mul_div.Goals as goal
use Rattle.wide.proofs.division.mul_div.Goals.{Else-d-p}

pub returns-then-d-eq0 : goal.returns-then-d-eq0
returns-then-d-eq0 c = let a = c.args in none (a.u * a.v) a.d c.if-d-eq0.true

pub returns-then-p-eq0 : goal.returns-then-p-eq0
returns-then-p-eq0 c =
    let p = c.product-p in
    let a = c.args in
    one_word p.result.high p.result.low (a.u * a.v) a.d p.ensures c.if-p-eq0.true c.struct_known-then-p-eq0-1.given.1.0.fits

pub returns-then-d-p : goal.returns-then-d-p
returns-then-d-p c =
    let p = c.product-p in
    let a = c.args in
    too_large p.result.high p.result.low (a.u * a.v) a.d p.ensures (omega arith) c.if-d-p.true

-- where the product's high word is below d
fits : (c : Else-d-p) → let p = c.product-p in let a = c.args in
    (p.result.high * word + p.result.low) / a.d ≡ min (a.u * a.v / a.d) (word - 1)
fits c =
    let p = c.product-p in
    let a = c.args in
    fitting p.result.high p.result.low (a.u * a.v) a.d p.ensures (omega arith) c.if-d-p.false c.struct_known-2-1.given.1.0.fits

pub returns-then-d-lt-HALF : goal.returns-then-d-lt-HALF
returns-then-d-lt-HALF c = c.by_half.ensures ∙ fits (goal.at.returns-then-d-lt-HALF c).Else-d-p

pub returns : goal.returns
returns c = c.by_word.ensures ∙ fits (goal.at.returns c).Else-d-p
