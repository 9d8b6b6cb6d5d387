-- `phase_sized` meets its contract: the tables have room for the activities.
use Prim.Native.Nat.{ℕ, ◌*◌, ◌≤◌}
use mathlib.Core.Path.{◌≡◌, ap, ◌∙◌}
use lib.IntN.{pos}
use lib.ListN.{length, take, replicate, length-replicate}
use lib.Seq.{length-take-le}
use Rattle.phased.proofs.phase_sized.Goals as goal

-- the front of an array of m
front_long : {A : Type 0} (m : ℕ) (x : A) (k : ℕ) → k ≤ m → length (take k (replicate m x)) ≡ k
front_long m x k h = length-take-le k (replicate m x) (rw (length-replicate m x) h)

pub phase_by-requires : goal.phase_by-requires
phase_by-requires g c =
    let r = c.requires in
    record {
      opened = r.opened;
      has_room = record {
        schedule_long = front_long {A = ℕ} g.row.SCHEDULE 0 _ r.room.0 ∙ ap (λ (n : ℕ). n * 13) r.listed_len.1;
        costs_long = front_long g.row.COSTS (pos 0) _ r.room.1 ∙ ap (λ (n : ℕ). n * 3) r.listed_len.1;
        listed_long = r.listed_len.0;
        budgets_long = r.listed_len.1;
      };
    }
