-- Rows with the differences of the minutes and of the costs: the baseline's less those of the schedule.
use Rattle.std.specs.Prelude.{ℕ, ◌+◌, ◌*◌, ◌/◌, ◌<◌, cond, List, [], ◌∷◌, ℤ, pos, ◌+ℤ◌, ◌-ℤ◌, length, get_or}
use Rattle.std.proofs.lemmas.List.Edits.{sets}
use Rattle.std.specs.Int.{w64}
use Rattle.integer.specs.Clamp.{clamp}
use Rattle.format.specs.InRange.{IsMinutes}
use Rattle.money.specs.Words.{bits, of_bits}
use Rattle.tree.specs.Figures.{figure_of}
use Rattle.activities.specs.Schedule.{entry_at}
use Rattle.variances.specs.Days.{has_line}

abbrev pub duration_by : ℕ → ℕ → ℤ
duration_by minutes working = pos minutes -ℤ pos working

-- of the bits of a cost that the baseline froze, and what is spent and left
abbrev pub cost_by : ℕ → ℤ → ℤ → ℤ
cost_by frozen spent left = clamp w64 (of_bits frozen -ℤ clamp w64 (spent +ℤ left))

-- the row of activity i, where it has a line
abbrev pub settled : List ℕ → List ℤ → ℕ → List ℕ → List ℕ
settled schedule costs i row =
    cond (has_line row)
    (sets row 3 (bits (duration_by (get_or row 3 0) (entry_at schedule i 9)) ∷ bits (cost_by (get_or row 4 0) (figure_of costs (i * 3 + 1)) (figure_of costs (i * 3 + 2))) ∷ []))
    row

-- the minutes of the lines and of the schedule
pub record Timed (schedule out : List ℕ) : Type 0 where
  pub lines : (i : ℕ) → i < length out / 5 → IsMinutes (get_or out (i * 5 + 3) 0)
  pub working : (i : ℕ) → i < length out / 5 → IsMinutes (entry_at schedule i 9)
