-- Marks of what the budgets before name.
use Rattle.std.specs.Prelude.{None, Option, Some, Err, Ok}
use Prim.Native.Nat.{ℕ, ◌≤◌, ◌<◌, min}
use native.Mathlib.Omega.{arith}
use mathlib.Core.Path.{◌≡◌, refl, sym, ◌∙◌}
use mathlib.Core.Bool.{Bool, true, false, cond}
use mathlib.Core.List.{List, [], ◌∷◌}
use lib.Dec.{eqb}
use lib.ListN.{length, get_or, set, length-set, replicate, get_or-replicate, length-replicate}
use lib.Seq.{get_or-set_same, get_or-set_other}
use borrow.Author.Tests.{eqb-true, eqb-false, eq-eqb, ne_eqb}
use Rattle.format.specs.Reader.{place_of, ranged, optional, passing, tested, both, mapped}
use Rattle.format.specs.Field.{range, index}
use Rattle.format.specs.Codec.{O, test, iso, ◌then◌, ◌&◌}
use Rattle.format.specs.Format.{names, is_new, budget}
use Rattle.sections.specs.Sections.{mark_of}
use Rattle.sections.proofs.Limits.{ranged_below}
use Rattle.format.specs.Position.{Pos}
use Rattle.format.specs.declared.Reason.TheVariants.{OutOfRange, OutOfOrder}
use Rattle.format.specs.declared.Reason.{Reason}

-- what has a mark of its own
abbrev pub Small : Option ℕ → Type 0
Small None = Unit {0}
Small (Some v) = v < 500

-- ---- what is read has one
chosen_small : (b : Bool) (p : Pos) (v : ℕ × Pos) → v.0 < 500 → Small (cond {A = Option ℕ × Pos} b (None, p) (Some v.0, v.1)).0
chosen_small true p v h = tt
chosen_small false p v h = h

pub index_small : (n : ℕ) (s : List ℕ) (p : Pos) → n ≤ 500 → Small ((O (index n)).read s p).0
unfolding O range optional
index_small n s p h =
    let mark = ranged 0 2 OutOfRange (place_of p) s p in
    chosen_small (eqb mark.0 0) mark.1 (ranged 0 n OutOfRange (place_of p) s mark.1) (ranged_below 0 n OutOfRange (place_of p) h (omega arith) s mark.1)

-- and so has what a test leaves of it
pub tested_small : (reason : Reason) (place : ℕ) (t : Bool) (a : Option ℕ) (q : Pos) → Small a → Small (tested None reason place t (a, q)).0
unfolding tested
tested_small reason place true a (Ok i) h = h
tested_small reason place false a (Ok i) h = tt
tested_small reason place t a (Err e) h = h

-- ---- the marks
-- what is marked is what a budget before names
pub record Marked (marks : List ℕ) (before : List (Option ℕ)) : Type 0 where
  pub long : length marks ≡ 501
  pub same : (a : Option ℕ) → Small a → is_new before a ≡ eqb (get_or marks (mark_of a) 0) 0

mark_below : (a : Option ℕ) → mark_of a < 501
unfolding mark_of
mark_below None = omega arith
mark_below (Some v) = omega arith

pub none_marked : Marked (replicate 501 0) []
unfolding is_new
none_marked =
    record {
      long = length-replicate {A = ℕ} 501 0;
      same = λ a h. sym (eq-eqb (get_or (replicate 501 0) (mark_of a) 0) 0 (get_or-replicate 501 (mark_of a) 0 0 (mark_below a)));
    }

pub place_below : {k : ℕ} (a : Option ℕ) → k ≡ mark_of a → k < 501
place_below a e = omega (arith, mark_below a)

-- two that are named apart have marks apart
apart : (b a : Option ℕ) → Small b → Small a → names b a ≡ eqb (mark_of b) (mark_of a)
unfolding names mark_of
apart None None h k = refl
apart None (Some v) h k = sym (ne_eqb 500 (min v 500) (λ e. omega arith))
apart (Some u) None h k = sym (ne_eqb (min u 500) 500 (λ e. omega arith))
apart (Some u) (Some v) h k =
    let x : min u 500 ≡ u = omega arith in
    let y : min v 500 ≡ v = omega arith in
    rw (x, y)

pub one_marked :
    {marks : List ℕ} {before : List (Option ℕ)} → Marked marks before → (b : Option ℕ) → Small b → Marked (set marks (mark_of b) 1) (b ∷ before)
unfolding is_new
one_marked {marks} {before} m b h =
    record { long = length-set marks (mark_of b) 1 ∙ m.long; same = λ a k. go a k (eqb (mark_of b) (mark_of a)) refl }
  where
    go :
        (a : Option ℕ) → Small a → (t : Bool) → eqb (mark_of b) (mark_of a) ≡ t →
        cond (names b a) false (is_new before a) ≡ eqb (get_or (set marks (mark_of b) 1) (mark_of a) 0) 0
    go a k true e =
        let same : mark_of b ≡ mark_of a = eqb-true (mark_of b) (mark_of a) e in
        let long : mark_of b < length marks = omega (arith, mark_below b, m.long) in
        rw (apart b a h k, e, ← same, get_or-set_same marks (mark_of b) 1 0 long)
    go a k false e = rw (apart b a h k, e, get_or-set_other marks (mark_of b) (mark_of a) 1 0 (λ x. eqb-false (mark_of b) (mark_of a) e (sym x))) (m.same a k)

-- what a budget that is read names
pub budget_small : (n : ℕ) (before : List (Option ℕ)) (s : List ℕ) (p : Pos) → n ≤ 500 → Small ((budget n before).read s p).0.activity
unfolding budget iso mapped ◌&◌ ◌then◌ both test passing
budget_small n before s p h =
    let name = (O (index n)).read s p in
    tested_small OutOfOrder (place_of p) (is_new before name.0) name.0 name.1 (index_small n s p h)
