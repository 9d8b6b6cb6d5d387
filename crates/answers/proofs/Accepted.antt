-- An accepted call: the book is accepted, what is answered is the count of rows, and they stand at the front of lent memory.
use Rattle.std.specs.Prelude.{Err, Ok}
use Prim.Native.Nat.{ℕ, ◌+◌, ◌*◌, ◌<◌}
use mathlib.Core.Path.{◌≡◌, refl, sym, ap, ◌∙◌}
use mathlib.Core.Bool.{Bool, true, false, cond}
use mathlib.Core.List.{List, [], ◌∷◌, ◌++◌, map, flat_map}
use native.Mathlib.Omega.{arith}
use lib.Dec.{leb}
use lib.IntN.{ℤ}
use lib.ListN.{length, get_or, drop, get_or-append}
use mir.Syntax.{w64}
use mir.Val.{SFits}
use Rattle.flat.proofs.Cells.{cell_inside}
use Rattle.flat.proofs.Tables.{flat_length, flat_at}
use Rattle.format.specs.Book.{Book}
use Rattle.format.specs.Verdict.{verdict, content}
use Rattle.money.specs.Words.{bits, of_bits}
use Rattle.money.proofs.Bits.{there_and_back}
use Rattle.rows.specs.Rows.{numbers}
use Rattle.rows.proofs.Numbers.{numbers_flat}
use Rattle.answers.specs.Rows.{Rows}
use Rattle.format.specs.declared.Reason.TheVariants.{TooShort}
use Rattle.answers.specs.Calls.{Condition, checked, fitted, reply_at, lent_after, reply_place, reply, left}
use Rattle.format.specs.Position.{Pos, refused}
use Rattle.format.specs.declared.Refusal.{Refusal}
use Rattle.answers.specs.Reply.{Reply}

refused_no : {A : Type 0} (e : Refusal) (n : ℕ) → ◌≡◌ {A = Reply} (Err e) (Ok n) → A
refused_no e n h = let z : ◌≡◌ {A = ℕ} 0 1 = cc in absurd (omega arith)

-- what is accepted was refused for no condition
passed : (conditions : List Condition) (book : Book) (r : Reply) (n : ℕ) → checked conditions book r ≡ Ok n → r ≡ Ok n
unfolding checked
passed [] book r n h = h
passed (c ∷ cs) book r n h = go (c.holds book) h (passed cs book r n)
  where
    go : (b : Bool) → cond b (checked cs book r) (refused c.reason 0) ≡ Ok n → (checked cs book r ≡ Ok n → r ≡ Ok n) → r ≡ Ok n
    go true h on = on h
    go false h on = refused_no _ n h

-- and its rows fit
fits : (rows : Rows) (lent n : ℕ) → fitted rows lent ≡ Ok n → n ≡ length rows
unfolding fitted reply_place
fits rows lent n h = go (leb (length (numbers rows)) lent) h
  where
    go : (b : Bool) → cond b (Ok (length rows)) (refused TooShort 0) ≡ Ok n → n ≡ length rows
    go true h = sym (ap reply_place h)
    go false h = refused_no _ n h

module _ (conditions : List Condition) (rows : Book → Rows) (s out : List ℕ) {n : ℕ} (accepted : reply conditions rows s (length out) ≡ Ok n) where
  pub accepted_book : (j : ℕ) × (verdict s ≡ Ok j)
  unfolding reply
  accepted_book = go (verdict s) refl accepted
    where
      go : (p : Pos) → verdict s ≡ p → reply_at p (checked conditions (content s) (fitted (rows (content s)) (length out))) ≡ Ok n → (j : ℕ) × (verdict s ≡ Ok j)
      go (Ok j) e h = (j, e)
      go (Err e) q h = refused_no e n h

  -- with the count of its rows
  pub accepted_count : n ≡ length (rows (content s))
  unfolding reply
  accepted_count = go (verdict s) accepted
    where
      go : (p : Pos) → reply_at p (checked conditions (content s) (fitted (rows (content s)) (length out))) ≡ Ok n → n ≡ length (rows (content s))
      go (Ok j) h = fits (rows (content s)) (length out) n (passed conditions (content s) (fitted (rows (content s)) (length out)) n h)
      go (Err e) h = refused_no e n h

  -- which stand at the front of lent memory
  pub accepted_lent : left conditions rows s out ≡ numbers (rows (content s)) ++ drop (length (numbers (rows (content s)))) out
  unfolding left lent_after
  accepted_lent = rw accepted refl

-- ---- rows of a width, in front of other numbers
module _ {A : Type 0} (width : ℕ) (row : A → List ℕ) (wide : (a : A) → length (row a) ≡ width) where
  -- number k of row i
  pub number_is :
      (xs : List A) (d : A) (rest : List ℕ) (i k : ℕ) → i < length xs → k < width →
      get_or (numbers (map row xs) ++ rest) (i * width + k) 0 ≡ get_or (row (get_or xs i d)) k 0
  number_is xs d rest i k h l =
      ap (λ (ns : List ℕ). get_or (ns ++ rest) (i * width + k) 0) (numbers_flat row xs)
      ∙ get_or-append (flat_map row xs) rest 0 (i * width + k) (omega (arith, flat_length width row wide xs, cell_inside {width = width} h l))
      ∙ flat_at width row wide xs i k d 0 h l

  -- a figure of 64 bits that is number k of each row
  pub figure_is :
      (k : ℕ) → k < width → (f : A → ℤ) → ((a : A) → get_or (row a) k 0 ≡ bits (f a)) →
      (xs : List A) (d : A) (rest : List ℕ) (i : ℕ) → i < length xs → (a : A) → get_or xs i d ≡ a → SFits w64 (f a) →
      of_bits (get_or (numbers (map row xs) ++ rest) (i * width + k) 0) ≡ f a
  figure_is k l f put xs d rest i h a e fit = ap of_bits (number_is xs d rest i k h l ∙ ap (λ (x : A). get_or (row x) k 0) e ∙ put a) ∙ there_and_back (f a) fit
