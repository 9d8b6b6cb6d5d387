-- `put_point` meets its contract: a date that is not marked has no row.
use mathlib.Core.Path.{sym, ap, ◌∙◌}
use mathlib.Core.Bool.{Bool}
use mathlib.Core.List.{List}
use Prim.Native.Nat.{ℕ, ◌+◌}
use native.Mathlib.Omega.{arith}
use lib.ListN.{length, set}
use lib.Seq.{sets}
use Rattle.bydate.specs.Pointed.{row_if}
use Rattle.bydate.proofs.Writing.{row_written}
use Rattle.bydate.proofs.points.put_point.Goals as goal

pub returns-then-marked : goal.returns-then-marked
returns-then-marked c =
    let s = c.args in
    let marked = c.if-marked.true in record {
      value = omega (arith, ap (λ (b : Bool). length (row_if b s.date s.sum)) marked);
      out_after = c.put-then-marked.ensures ∙ ap (λ (l : List ℕ). set l (s.j + 1) s.sum) c.put.ensures ∙ row_written s.out.now s.j s.date s.sum
          ∙ sym (ap (λ (b : Bool). sets s.out.now s.j (row_if b s.date s.sum)) marked);
    }

pub returns : goal.returns
returns c =
    let s = c.args in record {
      value = omega (arith, ap (λ (b : Bool). length (row_if b s.date s.sum)) c.if-marked.false);
      out_after = sym (ap (λ (b : Bool). sets s.out.now s.j (row_if b s.date s.sum)) c.if-marked.false);
    }
