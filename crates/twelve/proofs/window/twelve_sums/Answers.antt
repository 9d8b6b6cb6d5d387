-- `twelve_sums` meets its contract: the loop keeps the sums so far, and the window at the month before the next.
use Prim.Native.Nat.{◌<◌}
use mathlib.Core.Path.{◌≡◌, refl, sym, ap, ◌∙◌}
use mathlib.Core.Bool.{true, true≢false}
use native.Mathlib.Omega.{arith}
use lib.ListN.{length, set}
use mir.Syntax.{w64}
use Rattle.integer.specs.Linear.{back}
use Rattle.money.specs.Exact.{value_of, is_word}
use Rattle.twelve.proofs.Windows.{summing_none, summing_fails, summing_more, summing_filled, summing_words}
use Rattle.twelve.proofs.window.twelve_sums.Goals as goal
use Rattle.twelve.proofs.window.twelve_sums.Goals.{Else-not-is_word, In-loop-k}

-- a month of the loop is one of those that are asked
inside : (c : In-loop-k) → c.loop-k.k < length c.args.sums.now
inside c = omega (arith, c.loop-k-test.true, c.loop-k.invariant.long)

pub slide-window-requires : goal.slide-window-requires
slide-window-requires c =
    let w = c.loop-k.invariant in
    record {
      days_value = c.requires.days_value;
      has_reach = (c.requires.has_reach.0, c.requires.has_reach.1.starts);
      first_le_month = (omega arith, omega (arith, inside (goal.at.slide-window-requires c).In-loop-k, c.requires.has_reach.1.most));
      window_value = (w.at, w.small);
    }

pub returns-then-not-is_word : goal.returns-then-not-is_word
returns-then-not-is_word c =
    record {
      words = sym (summing_fails _ _ _ c.requires.has_reach.1 (inside (goal.at.returns-then-not-is_word c).In-loop-k) c.slide-window.ensures.sum (sym c.is_word.ensures ∙ c.if-not-is_word.true));
      filled = λ e. absurd (true≢false (sym e));
    }

-- where the loop goes on, the sum is of 64 bits
word : (c : Else-not-is_word) → is_word (value_of c.slide-window.result) ≡ true
word c = sym c.is_word.ensures ∙ c.if-not-is_word.false

pub loop-k-preserved : goal.loop-k-preserved
loop-k-preserved c =
    let slid = c.slide-window.ensures in
    summing_more _ _ _ c.requires.has_reach.1 c.loop-k.invariant (inside (goal.at.loop-k-preserved c).In-loop-k) slid.sum slid.small (word (goal.at.loop-k-preserved c).Else-not-is_word)
    (ap (set c.loop-k.sums c.loop-k.k) (back w64 c.narrowed.result c.narrowed.type_inv ∙ c.narrowed.ensures))

pub returns : goal.returns
returns c =
    let w = c.loop-k.invariant in
    record {
      words = sym (summing_words _ _ _ c.requires.has_reach.1 w (omega (arith, w.long)));
      filled = λ e. summing_filled _ _ _ c.requires.has_reach.1 w (omega (arith, w.long));
    }

pub loop-k-init : goal.loop-k-init
loop-k-init c = summing_none _ _ _ c.requires.has_reach.1 _ refl

pub overflow_add-first : goal.overflow_add-first
overflow_add-first c = omega (arith, inside c, c.requires.has_reach.1.most)

pub shape_of-sums-then-not-is_word : goal.shape_of-sums-then-not-is_word
shape_of-sums-then-not-is_word c = c.loop-k.invariant.long

pub narrowed-requires : goal.narrowed-requires
narrowed-requires c = word (goal.at.narrowed-requires c).Else-not-is_word

pub bounds-sums-k : goal.bounds-sums-k
bounds-sums-k c = omega (arith, c.loop-k-test.true)

pub shape_of-sums : goal.shape_of-sums
shape_of-sums c = c.loop-k.invariant.long
