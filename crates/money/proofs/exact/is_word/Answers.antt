-- `is_word` meets its contract: the high word is the low one's sign. Assumes nothing.
use Rattle.std.proofs.Common.{◌≡◌, pos, negsuc, sym, arith}
use Rattle.integer.specs.Linear.{eq_parts}
use Rattle.money.specs.Exact.{value_of}
use Rattle.money.proofs.ExactWords.{tested}
use Rattle.money.proofs.ExactParts.{whole, high_is, high_other, tests}
use Rattle.money.proofs.exact.is_word.Goals as goal

pub returns-then-a-eq0 : goal.returns-then-a-eq0
returns-then-a-eq0 c =
    let a = c.args.a in
    let g = c.struct_told-1.given in
    let e : a.high ≡ pos 0 = high_is g.0.1 (omega arith) c.if-a-eq0.true in
    tested (value_of a) (λ t. omega (tests, whole a, eq_parts e)) (λ t. omega (tests, whole a, eq_parts e))

pub returns-then-a-eq18446744073709551615 : goal.returns-then-a-eq18446744073709551615
returns-then-a-eq18446744073709551615 c =
    let a = c.args.a in
    let g = c.struct_told-2-1.given in
    let e : a.high ≡ negsuc 0 = high_is g.0.1 (omega arith) c.if-a-eq18446744073709551615.true in
    tested (value_of a) (λ t. omega (tests, whole a, eq_parts e, g.1.0.1)) (λ t. omega (tests, whole a, eq_parts e, g.1.0.1))

pub returns : goal.returns
returns c =
    let a = c.args.a in
    sym (high_other a.high a.low c.struct_told-2-1.given.1.0.1 c.if-a-eq0.false c.if-a-eq18446744073709551615.false)
