-- Reading a whole byte string: where it begins and where it ends.
use Rattle.std.specs.Prelude.{Err, Ok}
use Prim.Native.Nat.{ℕ, ◌+◌, ◌≤◌}
use native.Mathlib.Omega.{arith}
use mathlib.Core.Path.{◌≡◌, refl, ap, sym, ◌∙◌}
use mathlib.Core.Bool.{Bool, true, false, cond}
use mathlib.Core.List.{List, [], append-nil}
use lib.ListN.{length, length-append}
use lib.Dec.{ltb}
use borrow.Author.Tests.{le-ltb, ltb-false}
use Rattle.format.specs.Reader.{place_of}
use Rattle.format.specs.Bytes.{Bytes}
use Rattle.format.specs.Inverse.{Held, never, at_of}
use Rattle.format.specs.Book.{Book}
use Rattle.format.specs.Format.{book}
use Rattle.format.specs.Verdict.{begin, end, verdict, content, WellFormed}
use Rattle.format.specs.declared.Reason.TheVariants.{BookTooLong, BytesLeft}
use Rattle.format.proofs.Sound.{codec_inverse, codec_within}
use Rattle.format.specs.Position.{Pos, refused}

module _ (b : Book) (w : WellFormed b) where
  pub read_written : book.read (book.write b) (begin (book.write b)) ≡ (b, Ok (length (book.write b)))
  unfolding begin
  read_written =
      let s = book.write b in
      let z : 0 + length s ≡ length s = omega arith in
      rw (begin, le-ltb 60000 (length s) w.short) (rw z at ((codec_inverse book).forth b w.fields s [] 0 (sym (append-nil s))))

  pub verdict_written : verdict (book.write b) ≡ Ok (length (book.write b))
  unfolding verdict end
  verdict_written = rw (verdict, read_written, le-ltb (length (book.write b)) (length (book.write b)) (omega arith))

end_at : (s : List ℕ) (c : Pos) (j : ℕ) → end s c ≡ Ok j → (c ≡ Ok j) × (length s ≤ j)
unfolding end
end_at s (Err e) j h = never h
end_at s (Ok i) j h = go (ltb i (length s)) refl
  where
    go : (b : Bool) → ltb i (length s) ≡ b → ◌≡◌ {A = Pos} (Ok i) (Ok j) × (length s ≤ j)
    go true e = never (rw e at h)
    go false e = let q : ◌≡◌ {A = Pos} (Ok i) (Ok j) = rw e at h in (q, rw (← at_of q) (ltb-false i (length s) e))

module _ (s : List ℕ) (j : ℕ) (h : verdict s ≡ Ok j) where
  read_end : ((book.read s (begin s)).1 ≡ Ok j) × (length s ≤ j)
  unfolding verdict
  read_end = end_at s (book.read s (begin s)).1 j h

  pub begins : (length s ≤ 60000) × (begin s ≡ Ok 0)
  unfolding begin
  begins = go (ltb 60000 (length s)) refl read_end.0
    where
      go :
          (b : Bool) → ltb 60000 (length s) ≡ b → (book.read s (cond b (refused BookTooLong 0) (Ok 0))).1 ≡ Ok j →
          (length s ≤ 60000) × (begin s ≡ Ok 0)
      go true e k = never (sym ((codec_inverse book).stays s (record { reason = BookTooLong; place = 0 })) ∙ k)
      go false e k = (ltb-false 60000 (length s) e, rw e)

  pub held : Bytes s → Held book.write book.ok s 0 j (content s)
  unfolding content
  held b = rw (content, begins.1) ((codec_inverse book).back s b 0 j (rw begins.1 at read_end.0))

  pub ends : Bytes s → j ≡ length s
  ends b = let l = simp length-append at (ap length (held b).text) in omega (arith, l, (held b).long, read_end.1)

begin_place : (s : List ℕ) → place_of (begin s) ≤ length s
unfolding begin place_of
begin_place s = go (ltb 60000 (length s))
  where
    go : (b : Bool) → place_of (cond b (refused BookTooLong 0) (Ok 0)) ≤ length s
    go true = omega arith
    go false = omega arith

end_place : (s : List ℕ) (c : Pos) → place_of c ≤ length s → place_of (end s c) ≤ length s
unfolding end place_of
end_place s (Err e) h = h
end_place s (Ok i) h = go (ltb i (length s))
  where
    go : (b : Bool) → place_of (cond b (refused BytesLeft i) (Ok i)) ≤ length s
    go true = h
    go false = h

pub verdict_place : (s : List ℕ) → place_of (verdict s) ≤ length s
unfolding verdict
verdict_place s = end_place s (book.read s (begin s)).1 ((codec_within book).place s (begin s) (begin_place s))
