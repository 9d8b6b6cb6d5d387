-- `put_marked` meets its contract: a hyphen, or the number behind a blank. Assumes nothing.
use native.Mathlib.Omega.{arith}
use mathlib.Core.Path.{ap}
use mathlib.Core.List.{List, [], ◌∷◌}
use Prim.Native.Nat.{ℕ}
use lib.ListN.{take}
use borrow.Author.Rules.{rules}
use Rattle.money.specs.Words.{of_bits}
use Rattle.text.specs.Text.{signed}
use Rattle.text.proofs.Spelling.{same, both, marked_none, marked_some}
use Rattle.text.proofs.put_marked.Goals as goal

abbrev blank : List ℕ → List ℕ
blank text = 32 ∷ text

pub returns-then-mark-eq0 : goal.returns-then-mark-eq0
returns-then-mark-eq0 c =
    let s = c.args in
    record {
      upper_bound = search rules;
      out_after = same (take s.at s.out.now) c.put.ensures.out_after (ap blank (marked_none s.mark s.bits c.if-mark-eq0.true));
    }

pub returns : goal.returns
returns c =
    let s = c.args in
    let text = take s.at s.out.now in record {
      upper_bound = omega (arith, c.put-behind.ensures.value, c.put_signed.ensures.upper_bound);
      out_after = same text (both text (32 ∷ []) (signed (of_bits s.bits)) c.put-behind.ensures.out_after c.put_signed.ensures.out_after)
          (ap blank (marked_some s.mark s.bits c.if-mark-eq0.false));
    }
