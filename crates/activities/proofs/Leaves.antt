-- The parents' numbers are the tree, and the leaf marks mark its leaves.
use Rattle.std.specs.Prelude.{None, Option, Some}
use Prim.Native.Nat.{ℕ, zero, suc, ◌≤◌, ◌<◌, min}
use native.Mathlib.Omega.{arith}
use mathlib.Core.Path.{◌≡◌, refl, ap, ap₂, ◌∙◌}
use mathlib.Core.Bool.{Bool, true, false, not, cond, ◌||◌}
use mathlib.Core.List.{List, [], ◌∷◌, map, map-map}
use lib.Dec.{eqb}
use lib.ListN.{length, get_or, length-map}
use borrow.Author.Tests.{lt-ltb, le-ltb}
use Rattle.format.specs.Inverse.{Given}
use Rattle.format.specs.InRange.{Every, InRange}
use Rattle.format.specs.Book.{Activity, Book}
use Rattle.format.specs.Format as layout
use Rattle.lists.specs.Lists.{any}
use Rattle.sections.specs.Sections.{mark_of}
use Rattle.activities.specs.Leaves.{is_parent, leaf_mark}
use Rattle.model.specs.Tree.{parents, names, is_leaf}
use Rattle.tree.specs.Figures.{index_of, parents_of, MarksLeaves}
use Rattle.spans.specs.Columns.{parent_number}

-- two maps that agree on every element
map_same : {A B : Type 0} (f g : A → B) (l : List A) → Every (λ (a : A). f a ≡ g a) l → map f l ≡ map g l
map_same f g [] h = refl
map_same f g (x ∷ xs) h = ap₂ ◌∷◌ (h zero x (omega arith)) (map_same f g xs (λ k d l. h (suc k) d (omega arith)))

parent_back : (n : ℕ) (o : Option ℕ) → n ≤ 500 → Given (λ (i : ℕ). i < n) o → index_of n (mark_of o) ≡ o
unfolding mark_of
parent_back n None l h = rw (le-ltb 500 n l)
parent_back n (Some v) l h = let z : min v 500 ≡ v = omega arith in rw (z, lt-ltb v n h)

pub parents_are : (b : Book) → length b.activities ≤ 500 → InRange b → parents_of (map parent_number b.activities) ≡ parents b
unfolding parents_of parents parent_number
parents_are b l r =
    let n = length b.activities in
    ap (λ (m : ℕ). map (index_of m) (map parent_number b.activities)) (length-map b.activities parent_number)
    ∙ map-map (index_of n) parent_number b.activities
    ∙ map_same (λ (a : Activity). index_of n (parent_number a)) (λ (a : Activity). a.parent) b.activities
    (λ k d h. parent_back n (get_or b.activities k d).parent l (r.activities k d h).parent)

named_same : (i : ℕ) (o : Option ℕ) → layout.names o (Some i) ≡ names i o
unfolding layout.names
named_same i None = refl
named_same i (Some p) = refl

either : (x y : Bool) → cond x true y ≡ (x || y)
either true y = refl
either false y = refl

parent_any : (i : ℕ) (l : List Activity) → is_parent i l ≡ any (names i) (map (λ (a : Activity). a.parent) l)
unfolding is_parent any
parent_any i [] = refl
parent_any i (a ∷ as') =
    either (layout.names a.parent (Some i)) (is_parent i as') ∙ ap₂ (λ (x y : Bool). x || y) (named_same i a.parent) (parent_any i as')

mark_leaf : (b : Bool) → eqb (cond b 1 0) 0 ≡ not b
mark_leaf true = refl
mark_leaf false = refl

pub marks_leaves :
    (marks : List ℕ) (b : Book) → length b.activities ≤ 500 → ((i : ℕ) → i < 500 → get_or marks i 0 ≡ leaf_mark i b.activities) →
    MarksLeaves marks (parents b)
unfolding parents is_leaf
marks_leaves marks b l h i k =
    let all = map (λ (a : Activity). a.parent) b.activities in
    ap (λ (m : ℕ). eqb m 0) (h i (omega (arith, length-map b.activities (λ (a : Activity). a.parent))))
    ∙ mark_leaf (is_parent i b.activities)
    ∙ ap not (parent_any i b.activities)
