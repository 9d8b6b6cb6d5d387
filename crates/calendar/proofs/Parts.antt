-- A table of many calendars' days, filled part by part, as the calendars are read.
use Prim.Native.Nat.{ℕ, suc, ◌+◌, ◌*◌, ◌-◌, ◌≤◌, ◌<◌}
use mathlib.Core.Path.{◌≡◌, refl, sym, ap, ◌∙◌}
use mathlib.Core.Bool.{Bool, true, false}
use mathlib.Core.List.{List, ◌∷◌, ◌++◌}
use native.Mathlib.Nat.{mul-le-mul_right}
use native.Mathlib.Numerals.{add-one}
use native.Mathlib.Omega.{arith}
use borrow.Author.Tests.{eqb-true, eqb-false}
use lib.Dec.{eqb}
use lib.ListN.{length, get_or, take, drop, take-append-drop, length-append, length-drop, get_or-append}
use lib.Seq.{length-take-le, get_or-append-add, drop-cons}
use Rattle.format.specs.Reader.{many}
use Rattle.format.specs.Codec.{Codec, times, alike}
use Rattle.format.specs.Book.{Calendar}
use Rattle.format.proofs.Walks.{times_length}
use Rattle.model.specs.Calendar.{is_working}
use Rattle.calendar.specs.Tables.{one, Shows}
use Rattle.format.specs.Position.{Pos}

-- ---- a list with a part of it replaced

module _ (t ys rest : List ℕ) (a : ℕ) (h : a ≤ length t) where
  before_part : (j : ℕ) → j < a → get_or (take a t ++ (ys ++ rest)) j 0 ≡ get_or t j 0
  before_part j l =
      let inside : j < length (take a t) = omega (arith, length-take-le a t h) in
      get_or-append (take a t) (ys ++ rest) 0 j inside
      ∙ sym (get_or-append (take a t) (drop a t) 0 j inside)
      ∙ ap (λ (l : List ℕ). get_or l j 0) (take-append-drop a t)

  in_part : (j : ℕ) → j < length ys → get_or (take a t ++ (ys ++ rest)) (a + j) 0 ≡ get_or ys j 0
  in_part j l =
      ap (λ (k : ℕ). get_or (take a t ++ (ys ++ rest)) (k + j) 0) (sym (length-take-le a t h))
      ∙ get_or-append-add (take a t) (ys ++ rest) j 0
      ∙ get_or-append ys rest 0 j l

-- a part of a width has its length
pub part_length : (t : List ℕ) (a width : ℕ) → a + width ≤ length t → length (take (a + width - a) (drop a t)) ≡ width
part_length t a width h = length-take-le (a + width - a) (drop a t) (omega (arith, length-drop a t)) ∙ omega arith

-- a part that is replaced by one as long leaves the length
pub part_kept : (t ys : List ℕ) (a width : ℕ) → a + width ≤ length t → length ys ≡ width → length (take a t ++ (ys ++ drop (a + width - a) (drop a t))) ≡ length t
part_kept t ys a width h l =
    let rest = drop (a + width - a) (drop a t) in
    omega (
      arith,
      length-append (take a t) (ys ++ rest),
      length-append ys rest,
      length-take-le a t (omega arith),
      length-drop (a + width - a) (drop a t),
      length-drop a t,
    )

-- ---- calendars

-- i parts of a width, and one more
pub part_end : (i width : ℕ) → (i + 1) * width ≡ i * width + width
part_end i width = omega arith

pub parts_room : {i n : ℕ} (width : ℕ) → i < n → i * width + width ≤ n * width
parts_room {i} {n} width h = let e : i + 1 ≤ n = omega arith in omega (arith, part_end i width, mul-le-mul_right width e)

module _ (cs : List Calendar) (from to : ℕ) where
  -- the first i of the calendars are shown
  abbrev pub Shown : ℕ → List ℕ → Type 0
  Shown i days =
      (k : ℕ) (c : Calendar) → k < i → (date : ℕ) → from ≤ date → date ≤ to → get_or days (k * (to + 1 - from) + (date - from)) 0 ≡ one (is_working (get_or cs k c) date)

  pub shown_none : (days : List ℕ) → Shown 0 days
  shown_none days = λ k c h. absurd (omega arith)

  -- one calendar more, whose days are ys
  pub shown_more :
      (i at : ℕ) (days ys rest : List ℕ) (x : Calendar) → at ≡ i * (to + 1 - from) → at ≤ length days → length ys ≡ to + 1 - from →
      ((c : Calendar) → get_or cs i c ≡ x) → Shows (is_working x) from to ys → Shown i days → Shown (i + 1) (take at days ++ (ys ++ rest))
  shown_more i at days ys rest x is room long same s before k c h date f t = go (eqb k i) refl
    where
      after : List ℕ
      after = take at days ++ (ys ++ rest)

      go : (b : Bool) → eqb k i ≡ b → get_or after (k * (to + 1 - from) + (date - from)) 0 ≡ one (is_working (get_or cs k c) date)
      go true q =
          let e : k ≡ i = eqb-true k i q in
          rw e
          (ap (λ (j : ℕ). get_or after (j + (date - from)) 0) (sym is)
          ∙ in_part days ys rest at room (date - from) (omega arith)
          ∙ s.at date f t
          ∙ ap (λ (y : Calendar). one (is_working y date)) (sym (same c)))
      go false q =
          let less : k < i = omega (arith, eqb-false k i q) in
          before_part days ys rest at room (k * (to + 1 - from) + (date - from)) (omega (arith, parts_room (to + 1 - from) less))
          ∙ before k c less date f t

-- ---- a list that is read, an element a turn

module _ {A : Type 0} (c : Codec A) (s : List ℕ) (n : ℕ) (p : Pos) where
  pub read_length : length ((alike n c).read s p).0 ≡ n
  read_length = times_length (λ (x : Unit {0}). c) (λ x a. x) s n tt p

  -- i of the n elements from p on are read; those from q on are the rest
  pub record Reading (i : ℕ) (q : Pos) : Type 0 where
    pub most : i ≤ n
    pub rest : ((alike (n - i) c).read s q).0 ≡ drop i ((alike n c).read s p).0

  pub reading_none : Reading 0 p
  reading_none = record { most = omega arith; rest = let e : n - 0 ≡ n = omega arith in rw e }

  module _ {i : ℕ} {q : Pos} (g : Reading i q) (h : i < n) {v : A} {r : Pos} (e : (v, r) ≡ c.read s q) where
    both : v ∷ ((alike (n - (i + 1)) c).read s r).0 ≡ drop i ((alike n c).read s p).0
    unfolding times many
    both =
        let k : n - i ≡ suc (n - (i + 1)) = omega arith in
        ap (λ (u : A × Pos). u.0 ∷ ((alike (n - (i + 1)) c).read s u.1).0) e ∙ rw k at g.rest

    parted : (d : A) → drop i ((alike n c).read s p).0 ≡ get_or ((alike n c).read s p).0 i d ∷ drop (i + 1) ((alike n c).read s p).0
    parted d = rw (add-one i) (drop-cons ((alike n c).read s p).0 i d (omega (arith, read_length)))

    -- the element that is read, and the rest
    pub reading_is : (d : A) → get_or ((alike n c).read s p).0 i d ≡ v
    reading_is d = ap (λ (l : List A). get_or l 0 d) (sym (parted d) ∙ sym both)

    pub reading_more : Reading (i + 1) r
    reading_more = record { most = omega arith; rest = ap (drop 1) (both ∙ parted v) }
