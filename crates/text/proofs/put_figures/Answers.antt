-- `put_figures` meets its contract. In the loop: the text so far with the figures that are left is all that is to stand there.
-- Assumes nothing.
use Prim.Native.Nat.{◌+◌, ◌*◌, ◌-◌, ◌≤◌}
use native.Mathlib.Omega.{arith}
use mathlib.Core.Path.{◌≡◌, refl, sym, ◌∙◌}
use mathlib.Core.List.{◌++◌}
use lib.ListN.{length, take, drop}
use borrow.Author.Rules.{rules}
use Rattle.text.specs.Text.{figures}
use Rattle.text.proofs.Spelling.{figures_next, figures_end}
use Rattle.text.proofs.put_figures.Goals as goal

pub loop-number-init : goal.loop-number-init
loop-number-init c = (refl, omega arith, omega arith, refl)

pub loop-number-preserved : goal.loop-number-preserved
loop-number-preserved c =
    let numbers = c.args.numbers.now in
    let loop = c.loop-number in
    let blank = c.put-behind in
    let number = c.put_signed-end in (
      search rules,
      search rules,
      omega (arith, loop.invariant.2, blank.ensures.value, number.ensures.upper_bound),
      figures_next (take loop.end loop.out) _ _ numbers loop.number-index c.loop-number-test.true blank.ensures.out_after number.ensures.out_after ∙ loop.invariant.3,
    )

pub returns : goal.returns
returns c =
    let loop = c.loop-number in record {
      upper_bound = omega (arith, loop.invariant.2, loop.invariant.1);
      out_after = sym (figures_end (take loop.end loop.out) _ loop.number-index c.loop-number-test.false) ∙ loop.invariant.3;
    }
