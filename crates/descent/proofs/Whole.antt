-- The lines that the columns give are the outline's.
use Prim.Native.Nat.{ℕ, zero, suc, ◌+◌, ◌*◌, ◌≤◌, ◌<◌}
use mathlib.Core.Path.{◌≡◌, refl, sym, ap, ◌∙◌}
use mathlib.Core.List.{List, ◌∷◌, ◌++◌, flat_map}
use native.Mathlib.Omega.{arith}
use lib.ListN.{length, get_or, drop, get_or-append}
use lib.Seq.{sets, sets-eq}
use Rattle.flat.proofs.Cells.{cell_inside}
use Rattle.flat.proofs.Tables.{flat_same, flat_length, flat_at}
use Rattle.model.specs.Outline.{Line, line, tops, children, branch, branches, outline, line_at}
use Rattle.model.proofs.Tree.{has_parent}
use Rattle.model.proofs.Branches.{child_of, top_of}
use Rattle.model.proofs.Outline.{outline_is}
use Rattle.tree.specs.Figures.{parents_of}
use Rattle.tree.proofs.Walks.{count_is}
use Rattle.descent.specs.Links.{linked, IsLinksOf, line_numbers, lines_below, Ready, Stands}
use Rattle.descent.proofs.Turns.{put}

module _ (numbers first next : List ℕ) (g : IsLinksOf numbers first next) where
  -- a branch is that of the tree
  same_branch : (left level i : ℕ) → i < length numbers → branch (linked first next) left level i ≡ branch (children (parents_of numbers)) left level i
  unfolding branch
  same_branch zero level i h = refl
  same_branch (suc left) level i h =
      ap (λ (is : List ℕ). line level i ∷ flat_map (branch (linked first next) left (suc level)) is) (g.children_are i h)
      ∙ ap (λ (xs : List Line). line level i ∷ xs)
      (flat_same (branch (linked first next) left (suc level)) (branch (children (parents_of numbers)) left (suc level)) (children (parents_of numbers) i)
      (λ c m. same_branch left (suc level) c (omega (arith, has_parent (parents_of numbers) c i (child_of (parents_of numbers) i c m), count_is numbers))))

  lines_are : lines_below first next (length numbers) 1 (length numbers) ≡ outline (parents_of numbers)
  unfolding lines_below outline branches
  lines_are =
      ap (flat_map (branch (linked first next) (length numbers) 1)) g.tops_are
      ∙ flat_same (branch (linked first next) (length numbers) 1) (branch (children (parents_of numbers)) (length numbers) 1) (tops (parents_of numbers))
      (λ t m. same_branch (length numbers) 1 t (omega (arith, top_of (parents_of numbers) t m, count_is numbers)))
      ∙ ap (λ (n : ℕ). flat_map (branch (children (parents_of numbers)) n 1) (tops (parents_of numbers))) (sym (count_is numbers))

  few : length (lines_below first next (length numbers) 1 (length numbers)) ≤ length numbers
  few = omega (arith, ap length lines_are, (outline_is (parents_of numbers)).room, count_is numbers)

  -- there is room for them
  pub ready_first : (lines : List ℕ) → length first ≡ length numbers + 1 → length next ≡ length numbers → length lines ≡ length numbers * 2 → Ready first next lines (length numbers) 1 (length numbers) 0
  ready_first lines f n l = record {
    place = omega arith;
    one_more = omega arith;
    rises = g.rises;
    few = omega arith;
    room = omega (arith, few);
  }

  pub stands : (lines₀ lines : List ℕ) (count : ℕ) → length lines₀ ≡ length numbers * 2
      → count ≡ 0 + length (lines_below first next (length numbers) 1 (length numbers))
      → lines ≡ sets lines₀ (0 * 2) (put (lines_below first next (length numbers) 1 (length numbers)))
      → Stands (outline (parents_of numbers)) count lines
  stands lines₀ lines count l c e = record {
    counted = counted;
    levels = λ k h. (let z : k * 2 ≡ k * 2 + 0 = omega arith in ap (λ (n : ℕ). get_or lines n 0) z) ∙ cell k 0 h (omega arith);
    indexes = λ k h. cell k 1 h (omega arith);
  }
    where
      xs : List Line
      xs = outline (parents_of numbers)

      counted : count ≡ length xs
      counted = omega (arith, ap length lines_are)

      size : length (put xs) ≡ length xs * 2
      size = flat_length 2 line_numbers (λ x. refl) xs

      rest : List ℕ
      rest = drop (0 + length (put xs)) lines₀

      front : lines ≡ put xs ++ rest
      front =
          let room : 0 + length (put xs) ≤ length lines₀ = omega (arith, size, few, ap length lines_are) in
          e ∙ ap (λ (ys : List Line). sets lines₀ 0 (put ys)) lines_are ∙ sets-eq (put xs) lines₀ 0 room

      cell : (k j : ℕ) → k < count → j < 2 → get_or lines (k * 2 + j) 0 ≡ get_or (line_numbers (line_at xs k)) j 0
      cell k j h m =
          let here : k < length xs = omega (arith, counted) in
          ap (λ (ys : List ℕ). get_or ys (k * 2 + j) 0) front
          ∙ get_or-append (put xs) rest 0 (k * 2 + j) (omega (arith, size, cell_inside {width = 2} here m))
          ∙ flat_at 2 line_numbers (λ x. refl) xs k j (line 0 0) 0 here m
