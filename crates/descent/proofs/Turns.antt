-- One turn of the way down: a line, the lines below it, and what is left.
use Prim.Native.Nat.{ℕ, zero, suc, ◌+◌, ◌*◌, ◌-◌, ◌≤◌, ◌<◌}
use mathlib.Core.Path.{◌≡◌, refl, sym, ap, ◌∙◌}
use mathlib.Core.List.{List, [], ◌∷◌, ◌++◌, flat_map}
use native.Mathlib.Numerals.{add-one}
use native.Mathlib.Omega.{arith}
use lib.ListN.{length, get_or, length-append}
use lib.Seq.{sets, length-sets}
use Rattle.flat.proofs.Sets.{sets_on}
use Rattle.flat.proofs.Tables.{flat_append, flat_length}
use Rattle.model.specs.Outline.{Line, line, branch, branches}
use Rattle.descent.specs.Links.{chain_from, linked, Rises, line_numbers, lines_below, Ready}
use Rattle.descent.proofs.Chains.{chain_end, chain_next}

-- the numbers of some lines
abbrev pub put : List Line → List ℕ
put xs = flat_map line_numbers xs

-- a line and those below it put, then the rest: all of them put
set_turn :
    (out now : List ℕ) (at made : ℕ) (x : Line) (inner rest : List Line) → now ≡ sets (sets out (at * 2) (line_numbers x)) ((at + 1) * 2) (put inner) → made ≡ at + 1 + length inner →
    sets now (made * 2) (put rest) ≡ sets out (at * 2) (put (x ∷ (inner ++ rest)))
unfolding flat_map
set_turn out now at made x inner rest e m =
    let size = flat_length 2 line_numbers (λ y. refl) inner in
    ap (λ (xs : List ℕ). sets xs (made * 2) (put rest)) e
    ∙ sets_on (sets out (at * 2) (line_numbers x)) ((at + 1) * 2) (put inner) (put rest) (made * 2) (omega arith)
    ∙ sets_on out (at * 2) (line_numbers x) (put inner ++ put rest) ((at + 1) * 2) (omega arith)
    ∙ ap (λ (xs : List ℕ). sets out (at * 2) (line_numbers x ++ xs)) (sym (flat_append line_numbers inner rest))

no_levels : (kids : ℕ → List ℕ) (level : ℕ) (is : List ℕ) → branches kids 0 level is ≡ []
unfolding branches branch flat_map
no_levels kids level [] = refl
no_levels kids level (i ∷ is) = no_levels kids level is

module _ (first next : List ℕ) where
  -- the lines that are left from i on
  unfoldable pub ahead : ℕ → ℕ → ℕ → List Line
  ahead left level i = branches (linked first next) left level (chain_from next i)

  pub all_ahead : (left level p : ℕ) → ahead left level (get_or first p 0) ≡ lines_below first next left level p
  unfolding ahead lines_below linked
  all_ahead left level p = refl

  pub none_below : (level p : ℕ) → lines_below first next 0 level p ≡ []
  unfolding lines_below
  none_below level p = no_levels (linked first next) level (linked first next p)

  pub ahead_end : (left level i : ℕ) → length next ≤ i → ahead left level i ≡ []
  unfolding ahead branches flat_map
  ahead_end left level i h = ap (branches (linked first next) left level) (chain_end next i h)

  pub ahead_next : (left level i : ℕ) → Rises 0 next → (0 < left) → i < length next
      → ahead left level i ≡ line level i ∷ (lines_below first next (left - 1) (level + 1) i ++ ahead left level (get_or next i 0))
  unfolding ahead lines_below branches branch flat_map
  ahead_next zero level i r l h = absurd (omega arith)
  ahead_next (suc left) level i r l h =
      let e : left ≡ suc left - 1 = omega arith in
      ap (branches (linked first next) (suc left) level) (chain_next next 0 r i (omega arith) h)
      ∙ ap (λ (n : ℕ). line level i ∷ (branches (linked first next) n (suc level) (linked first next i) ++ ahead (suc left) level (get_or next i 0))) e
      ∙ ap (λ (n : ℕ). line level i ∷ (branches (linked first next) (suc left - 1) n (linked first next i) ++ ahead (suc left) level (get_or next i 0))) (sym (add-one level))

  pub shorter : (i : ℕ) → Rises 0 next → i < length next → length (chain_from next (get_or next i 0)) < length (chain_from next i)
  shorter i r h = omega (arith, ap length (chain_next next 0 r i (omega arith) h))

  pub ahead_count : (left level i : ℕ) → Rises 0 next → (0 < left) → i < length next
      → length (ahead left level i) ≡ 1 + length (lines_below first next (left - 1) (level + 1) i) + length (ahead left level (get_or next i 0))
  ahead_count left level i r l h =
      let inner = lines_below first next (left - 1) (level + 1) i in
      let rest = ahead left level (get_or next i 0) in
      omega (arith, ap length (ahead_next left level i r l h), length-append inner rest)

-- what is put so far, with what is left from i on, is all
pub record Going (first next lines₀ : List ℕ) (left level p from : ℕ) (lines : List ℕ) (made i : ℕ) : Type 0 where
  pub same : length lines ≡ length lines₀
  pub count : made + length (ahead first next left level i) ≡ from + length (lines_below first next left level p)
  pub lines_are : sets lines (made * 2) (put (ahead first next left level i)) ≡ sets lines₀ (from * 2) (put (lines_below first next left level p))

module _ (first next lines₀ : List ℕ) (left level p from : ℕ) where
  pub going_first : Going first next lines₀ left level p from lines₀ from (get_or first p 0)
  going_first =
      let e = all_ahead first next left level p in
      record {
        same = refl;
        count = ap (λ (xs : List Line). from + length xs) e;
        lines_are = ap (λ (xs : List Line). sets lines₀ (from * 2) (put xs)) e;
      }

  -- what is put where there are no levels left
  pub nothing : left ≡ 0 → (from ≡ from + length (lines_below first next left level p)) × (lines₀ ≡ sets lines₀ (from * 2) (put (lines_below first next left level p)))
  unfolding flat_map
  nothing z =
      let e : lines_below first next left level p ≡ [] = ap (λ (n : ℕ). lines_below first next n level p) z ∙ none_below first next level p in
      (omega (arith, ap length e), sym (ap (λ (xs : List Line). sets lines₀ (from * 2) (put xs)) e))

  module _ (lines : List ℕ) (made i : ℕ) (g : Going first next lines₀ left level p from lines made i) where
    pub going_next : {after lines' : List ℕ} {made' : ℕ} → Rises 0 next → (0 < left) → i < length next → after ≡ sets lines (made * 2) (level ∷ i ∷ [])
        → made' ≡ made + 1 + length (lines_below first next (left - 1) (level + 1) i)
        → lines' ≡ sets after ((made + 1) * 2) (put (lines_below first next (left - 1) (level + 1) i))
        → Going first next lines₀ left level p from lines' made' (get_or next i 0)
    going_next {after} {lines'} {made'} r l h line-put m e =
        let inner = lines_below first next (left - 1) (level + 1) i in
        let rest = ahead first next left level (get_or next i 0) in
        record {
          same = ap length e ∙ length-sets after ((made + 1) * 2) (put inner) ∙ ap length line-put ∙ length-sets lines (made * 2) (level ∷ i ∷ []) ∙ g.same;
          count = omega (arith, g.count, ahead_count first next left level i r l h);
          lines_are =
              set_turn lines lines' made made' (line level i) inner rest (e ∙ ap (λ (xs : List ℕ). sets xs ((made + 1) * 2) (put inner)) line-put) m
              ∙ ap (λ (xs : List Line). sets lines (made * 2) (put xs)) (sym (ahead_next first next left level i r l h))
              ∙ g.lines_are;
        }

    pub going_last : length next ≤ i → (made ≡ from + length (lines_below first next left level p)) × (lines ≡ sets lines₀ (from * 2) (put (lines_below first next left level p)))
    unfolding flat_map
    going_last h =
        let e = ahead_end first next left level i h in
        (omega (arith, g.count, ap length e), sym (ap (λ (xs : List Line). sets lines (made * 2) (put xs)) e) ∙ g.lines_are)

    module _ (ready : Ready first next lines₀ left level p from) (l : 0 < left) (h : i < length next) where
      pub room_here : (made + 1) * 2 ≤ length lines₀
      room_here = omega (arith, g.count, ready.room, ahead_count first next left level i ready.rises l h)

      -- what the lines below i ask
      pub ready_next : (lines' : List ℕ) → lines' ≡ sets lines (made * 2) (level ∷ i ∷ []) → Ready first next lines' (left - 1) (level + 1) i (made + 1)
      ready_next lines' e = record {
        place = omega (arith, ready.one_more);
        one_more = ready.one_more;
        rises = ready.rises;
        few = omega (arith, ready.few);
        room = omega (arith, g.count, g.same, ready.room, ahead_count first next left level i ready.rises l h, ap length e, length-sets lines (made * 2) (level ∷ i ∷ []));
      }
