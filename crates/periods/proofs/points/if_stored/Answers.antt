-- `if_stored` meets its contract: by the mark.
use borrow.Author.Rules.{rules}
use mathlib.Core.Path.{sym, ap, ◌∙◌}
use mathlib.Core.Bool.{Bool, cond}
use mir.Facts.{to_z-of_z}
use borrow.Author.Tests.{eq-eqb, ne_eqb}
use Rattle.money.specs.Words.{bits}
use Rattle.periods.proofs.points.if_stored.Goals as goal

pub returns-then-to_bits-eq0 : goal.returns-then-to_bits-eq0
returns-then-to_bits-eq0 c =
    let a = c.args in
    let seen = c.to_bits.ensures ∙ ap bits (to_z-of_z c.ranges.stored) in
    sym (ap (λ (b : Bool). cond b 0 (bits a.figure)) (eq-eqb (bits a.stored) 0 (sym seen ∙ c.if-to_bits-eq0.true)))

pub returns : goal.returns
returns c =
    let a = c.args in
    let seen = c.to_bits.ensures ∙ ap bits (to_z-of_z c.ranges.stored) in
    c.to_bits-2.ensures
    ∙ ap bits (to_z-of_z c.ranges.figure)
    ∙ sym (ap (λ (b : Bool). cond b 0 (bits a.figure)) (ne_eqb (bits a.stored) 0 (λ z. c.if-to_bits-eq0.false (seen ∙ z))))
