-- `few_rows` meets its contract: the arrays are lent as far as the book has activities.
use Prim.Native.Nat.{ℕ}
use mathlib.Core.Path.{sym}
use native.Mathlib.Omega.{arith}
use lib.IntN.{pos}
use Rattle.bydate.proofs.Arrays.{front_long}
use borrow.Author.Rules.{rules}
use Rattle.curve.proofs.few_rows.Goals as goal

pub slice_bounds-few_by-end : goal.slice_bounds-few_by-end
slice_bounds-few_by-end c = front_long {A = ℕ} 96 0 _ (omega (arith, c.requires.count_bound))

pub slice_bounds-few_by-end-2 : goal.slice_bounds-few_by-end-2
slice_bounds-few_by-end-2 c = front_long 32 (pos 0) _ c.requires.count_bound

pub few_by-requires : goal.few_by-requires
few_by-requires c =
    let most = c.requires.count_bound in
    record { opened = c.requires.opened; listed_len = (sym (front_long {A = ℕ} 96 0 _ (omega (arith, most))), sym (front_long 32 (pos 0) _ most)) }
