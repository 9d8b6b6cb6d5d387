-- The running total over a table: date after date, and from a date on.
use Prim.Native.Nat.{ℕ, ◌+◌, ◌*◌, ◌-◌, ◌≤◌, ◌<◌}
use mathlib.Core.Path.{◌≡◌, refl, sym, ap, ap₂, ◌∙◌}
use mathlib.Core.Bool.{Bool, true, false, ◌&&◌}
use mathlib.Core.List.{List, [], ◌∷◌, map, foldl, Memᴰ}
use native.Mathlib.Omega.{arith}
use borrow.Author.Tests.{leb-true, le-leb}
use lib.Dec.{eqb, leb}
use lib.IntN.{ℤ, pos, ◌+ℤ◌}
use lib.ListN.{length, set, length-set}
use lib.Seq.{get_or-set_same, get_or-set_other}
use mir.Syntax.{w64}
use Rattle.integer.specs.Clamp.{clamp, clamp_fits}
use Rattle.money.specs.Words.{bits, of_bits}
use Rattle.money.proofs.Bits.{there_and_back}
use Rattle.gregorian.proofs.Laws.{and_both}
use Rattle.format.specs.InRange.{Rising}
use Rattle.lists.specs.Lists.{keep}
use Rattle.model.specs.Days.{dates_between}
use Rattle.model.specs.Amounts.{Dated, on, is_between}
use Rattle.model.specs.Planned.{running}
use Rattle.lists.proofs.Lists.{keep_map, keep_keep, keep_same, map_same}
use Rattle.model.proofs.Rising.{keep_rises, rest_rises, least, rising_same}
use Rattle.model.proofs.Days.{kept_between, between_kept}
use Rattle.laid.specs.Laid.{mark_of, sum_of}
use Rattle.bydate.specs.Pointed.{is_marked, sum_on, points_in, Reaches}
use Rattle.laid.proofs.Dates.{none_left, one_first}

module _ (base : ℕ) where
  -- the total so far and the table, with the sum of a date made the total up to it
  abbrev total_on : ℤ × List ℕ → ℕ → ℤ × List ℕ
  total_on c date =
      let next = clamp w64 (c.0 +ℤ of_bits (sum_of base c.1 date)) in
      (next, set c.1 ((date - base) * 2 + 1) (bits next))

  totals_long : (ds : List ℕ) (c : ℤ × List ℕ) → length (foldl total_on c ds).1 ≡ length c.1
  totals_long [] c = refl
  totals_long (d ∷ ds) c = totals_long ds (total_on c d) ∙ length-set c.1 ((d - base) * 2 + 1) (bits (total_on c d).0)

  -- the marks stay
  totals_marks : (ds : List ℕ) (c : ℤ × List ℕ) (d : ℕ) → mark_of base (foldl total_on c ds).1 d ≡ mark_of base c.1 d
  totals_marks [] c d = refl
  totals_marks (e ∷ ds) c d =
      totals_marks ds (total_on c e) d ∙ get_or-set_other c.1 ((e - base) * 2 + 1) ((d - base) * 2) (bits (total_on c e).0) 0 (λ q. omega arith)

  -- the sum of an earlier date stays
  totals_earlier : (d : ℕ) → base ≤ d → (ds : List ℕ) → ((e : ℕ) → Memᴰ e ds → d < e) → (c : ℤ × List ℕ) → sum_of base (foldl total_on c ds).1 d ≡ sum_of base c.1 d
  totals_earlier d h [] l c = refl
  totals_earlier d h (e ∷ ds) l c =
      let later : d < e = l e (Memᴰ.head refl) in
      totals_earlier d h ds (λ f m. l f (Memᴰ.tail m)) (total_on c e)
      ∙ get_or-set_other c.1 ((e - base) * 2 + 1) ((d - base) * 2 + 1) (bits (total_on c e).0) 0 (λ q. omega arith)

  -- the sums of rising dates become a running total
  totals_run : (ds : List ℕ) → Rising ds → (c : ℤ × List ℕ) → ((d : ℕ) → Memᴰ d ds → (base ≤ d) × ((d - base) * 2 + 1 < length c.1))
      → map (sum_on base (foldl total_on c ds).1) ds ≡ running c.0 (map (sum_on base c.1) ds)
  unfolding running
  totals_run [] r c h = refl
  totals_run (d ∷ ds) r c h =
      let next = total_on c d in
      let at = (d - base) * 2 + 1 in
      let inside = h d (Memᴰ.head refl) in
      ap₂ (λ (x : Dated) (xs : List Dated). x ∷ xs)
      (ap (on d) (ap of_bits (totals_earlier d inside.0 ds (least d ds r) next ∙ get_or-set_same c.1 at (bits next.0) 0 inside.1) ∙ there_and_back next.0 (clamp_fits w64 (c.0 +ℤ of_bits (sum_of base c.1 d)))))
      (totals_run ds (rest_rises d ds r) next (λ e m. let k = h e (Memᴰ.tail m) in (k.0, omega (arith, k.1, length-set c.1 at (bits next.0))))
      ∙ ap (running next.0)
      (map_same (sum_on base next.1) (sum_on base c.1) ds
      (λ e m. ap (λ (n : ℕ). on e (of_bits n)) (get_or-set_other c.1 at ((e - base) * 2 + 1) (bits next.0) 0 (λ q. omega (arith, least d ds r e m, inside.0))))))

  module _ (first to : ℕ) where
    -- the table with the marked dates of `before` from one on made totals
    abbrev totals_from : List ℕ → ℕ → ℤ × List ℕ → ℤ × List ℕ
    totals_from before date c = foldl total_on c (keep (is_marked base before) (dates_between date to))

    -- what the loop keeps: with the dates that are left made totals, all are
    pub record Totalling (before : List ℕ) (date : ℕ) (total : ℤ) (table : List ℕ) : Type 0 where
      pub begun : first ≤ date
      pub marks : (d : ℕ) → mark_of base table d ≡ mark_of base before d
      pub rest : totals_from before date (total, table) ≡ totals_from before first (pos 0, before)

    pub totalling_none : (table : List ℕ) → Totalling table first (pos 0) table
    totalling_none table = record { begun = omega arith; marks = λ d. refl; rest = refl }

    module _ {before : List ℕ} {date : ℕ} {total : ℤ} {table : List ℕ} (t : Totalling before date total table) where
      pub totalling_long : length table ≡ length before
      totalling_long =
          sym (totals_long (keep (is_marked base before) (dates_between date to)) (total, table)) ∙ ap (λ (c : ℤ × List ℕ). length c.1) t.rest
          ∙ totals_long (keep (is_marked base before) (dates_between first to)) (pos 0, before)

      marked : (b : Bool) → is_marked base table date ≡ b → is_marked base before date ≡ b
      marked b e = ap (λ (n : ℕ). eqb n 1) (sym (t.marks date)) ∙ e

      pub totalling_past : date ≤ to → is_marked base table date ≡ false → Totalling before (date + 1) total table
      totalling_past h e =
          record {
            begun = omega (arith, t.begun);
            marks = t.marks;
            rest = sym (ap (foldl total_on (total, table)) (one_first (is_marked base before) date to false h (marked false e))) ∙ t.rest;
          }

      pub totalling_more : date ≤ to → is_marked base table date ≡ true → {next : ℤ} → next ≡ clamp w64 (total +ℤ of_bits (sum_of base table date)) → {u : ℕ} → u ≡ bits next
          → Totalling before (date + 1) next (set table ((date - base) * 2 + 1) u)
      totalling_more h e {next} n {u} b =
          let at = (date - base) * 2 + 1 in
          record {
            begun = omega (arith, t.begun);
            marks = λ d. get_or-set_other table at ((d - base) * 2) u 0 (λ q. omega arith) ∙ t.marks d;
            rest =
                ap (λ (v : ℕ). totals_from before (date + 1) (next, set table at v)) b
                ∙ ap (λ (z : ℤ). totals_from before (date + 1) (z, set table at (bits z))) n
                ∙ sym (ap (foldl total_on (total, table)) (one_first (is_marked base before) date to true h (marked true e))) ∙ t.rest;
          }

      pub totalling_end : to < date → Reaches base before first to → points_in base table first to ≡ running (pos 0) (points_in base before first to)
      unfolding points_in dates_between
      totalling_end h r =
          let dates = keep (is_marked base before) (dates_between first to) in
          let last : table ≡ (totals_from before first (pos 0, before)).1 =
          ap (λ (c : ℤ × List ℕ). c.1) (sym (ap (foldl total_on (total, table)) (none_left (is_marked base before) date to h)) ∙ t.rest)
          in
          ap (map (sum_on base table)) (keep_same (is_marked base table) (is_marked base before) (dates_between first to) (λ d. ap (λ (n : ℕ). eqb n 1) (t.marks d)))
          ∙ ap (λ (l : List ℕ). map (sum_on base l) dates) last
          ∙ totals_run dates (keep_rises (is_marked base before) first (to + 1 - first)) (pos 0, before)
          (λ d m. let k = kept_between (is_marked base before) first to d m in (omega (arith, r.start, k.0), omega (arith, r.start, r.reach, k.0, k.1)))

-- ---- the points from a later date on

pub points_from : (base first from to : ℕ) (table : List ℕ) → first ≤ from → points_in base table from to ≡ keep (is_between from to) (points_in base table first to)
unfolding points_in dates_between
points_from base first from to table h =
    let test : ℕ → Bool = is_marked base table in
    let inside : ℕ → Bool = λ d. leb from d && leb d to in
    let both : ℕ → Bool = λ d. test d && inside d in
    ap (map (sum_on base table))
    (rising_same (keep test (dates_between from to)) (keep both (dates_between first to)) (keep_rises test from (to + 1 - from)) (keep_rises both first (to + 1 - first))
    (λ d m. let q = kept_between test from to d m in between_kept both first to d (omega (arith, q.0)) q.1 (rw (q.2, le-leb from d q.0, le-leb d to q.1)))
    (λ d m.
    let q = kept_between both first to d m in
    let t = and_both (test d) (inside d) q.2 in
    let i = and_both (leb from d) (leb d to) t.1 in
    between_kept test from to d (leb-true from d i.0) (leb-true d to i.1) t.0)
    ∙ sym (keep_keep test inside (dates_between first to)))
    ∙ sym (keep_map (is_between from to) (sum_on base table) (keep test (dates_between first to)))
