-- `put_columns` meets its contract: the five figures, then what is spent and the line's end. Assumes nothing.
use Prim.Native.Nat.{ℕ}
use native.Mathlib.Omega.{arith}
use mathlib.Core.Path.{◌≡◌, sym}
use mathlib.Core.List.{List, [], ◌∷◌, ◌++◌}
use lib.ListN.{length, get_or, take}
use lib.Seq.{length-take-le}
use borrow.Author.Rules.{rules}
use Rattle.text.specs.Text.{marked, figures}
use Rattle.text.proofs.Spelling.{both}
use Rattle.report.specs.Lines.{earned_line}
use Rattle.report.proofs.lines.put_columns.Goals as goal

five : (row : List ℕ) → length row ≡ 7 → length (take 5 row) ≡ 5
five row h = length-take-le 5 row (omega (arith, h))

pub put_figures-end-requires : goal.put_figures-end-requires
put_figures-end-requires c = rw (five c.args.row.now c.requires.row_len) (omega (arith, c.requires.at_in_bounds))

pub put_last-requires : goal.put_last-requires
put_last-requires c =
    omega (arith, five c.args.row.now c.requires.row_len, c.put_figures-end.ensures.upper_bound, c.requires.at_in_bounds)

pub returns : goal.returns
unfolding earned_line
returns c =
    let a = c.args in
    let row = a.row.now in
    record {
      upper_bound = omega (arith, five row c.requires.row_len, c.put_figures-end.ensures.upper_bound, c.put_last.ensures.upper_bound);
      out_after = both (take a.at a.out.now) (figures (take 5 row)) ((32 ∷ marked (get_or row 5 0) (get_or row 6 0)) ++ (10 ∷ [])) c.put_figures-end.ensures.out_after c.put_last.ensures.out_after;
    }

pub slice_bounds-put_figures-end : goal.slice_bounds-put_figures-end
slice_bounds-put_figures-end c = sym (five c.args.row.now c.requires.row_len)
