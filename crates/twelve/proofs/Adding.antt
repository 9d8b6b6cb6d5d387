-- The points between two dates, added up exactly: what the loop keeps.
use Prim.Native.Nat.{ℕ, ◌+◌, ◌-◌, ◌*◌, ◌^◌, ◌≤◌, ◌<◌}
use mathlib.Core.Path.{◌≡◌, sym, ap, ◌∙◌}
use mathlib.Core.Bool.{true, false}
use mathlib.Core.List.{List}
use native.Mathlib.Omega.{arith}
use lib.IntN.{ℤ, pos, nat_abs, ◌+ℤ◌, +ℤ_assoc, +ℤ_idl, +ℤ_idr}
use Rattle.integer.specs.Sums.{total, abs_plus}
use Rattle.money.specs.Words.{of_bits}
use Rattle.model.specs.Amounts.{Dated}
use Rattle.laid.specs.Laid.{sum_of}
use Rattle.bydate.specs.Pointed.{is_marked, points_in}
use Rattle.bydate.proofs.Writing.{points_next, points_end}
use Rattle.twelve.specs.Parts.{exact_sum, IsWithin}

module _ (base : ℕ) (table : List ℕ) where
  -- with the points that are left all are added; and how large the sum may be by now
  pub record Adding (first last date : ℕ) (sum : ℤ) : Type 0 where
    pub begun : first ≤ date
    pub few : date - first ≤ 47482
    pub small : nat_abs sum ≤ (date - first) * 2 ^ 63
    pub whole : sum +ℤ exact_sum (points_in base table date last) ≡ exact_sum (points_in base table first last)

  pub adding_none : (first last : ℕ) → Adding first last first (pos 0)
  adding_none first last = record { begun = omega arith; few = omega arith; small = omega arith; whole = +ℤ_idl (exact_sum (points_in base table first last)) }

  module _ {first last date : ℕ} {sum : ℤ} (w : Adding first last date sum) where
    module _ (h : date ≤ last) (l : last ≤ 47481) where
      pub adding_past : is_marked base table date ≡ false → Adding first last (date + 1) sum
      adding_past e =
          record {
            begun = omega (arith, w.begun);
            few = omega arith;
            small = omega (arith, w.small, w.begun);
            whole = sym (ap (λ (xs : List Dated). sum +ℤ exact_sum xs) (points_next base last table date false h (sym e))) ∙ w.whole;
          }

      pub adding_more : is_marked base table date ≡ true → {x next : ℤ} → nat_abs x ≤ 2 ^ 63 → x ≡ of_bits (sum_of base table date) → next ≡ sum +ℤ x → Adding first last (date + 1) next
      unfolding total
      adding_more e {x} {next} s q n =
          let rest = exact_sum (points_in base table (date + 1) last) in
          record {
            begun = omega (arith, w.begun);
            few = omega arith;
            small = omega (arith, w.small, w.begun, abs_plus sum x, ap nat_abs n);
            whole =
                ap (λ (z : ℤ). z +ℤ rest) n
                ∙ +ℤ_assoc sum x rest
                ∙ ap (λ (z : ℤ). sum +ℤ (z +ℤ rest)) q
                ∙ sym (ap (λ (xs : List Dated). sum +ℤ exact_sum xs) (points_next base last table date true h (sym e)))
                ∙ w.whole;
          }

    -- so it can be added to
    pub adding_small : nat_abs sum < 2 ^ 100
    adding_small = omega (arith, w.small, w.few)

    pub adding_within : IsWithin 1 sum
    unfolding IsWithin
    adding_within = omega (arith, w.small, w.few)

    pub adding_end : last < date → sum ≡ exact_sum (points_in base table first last)
    unfolding total
    adding_end h = sym (+ℤ_idr sum) ∙ sym (ap (λ (xs : List Dated). sum +ℤ exact_sum xs) (points_end base last table date h)) ∙ w.whole
