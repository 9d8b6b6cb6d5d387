-- Rows of earned value and of the outline: how long each is, and how many there are.
use Rattle.std.specs.Prelude.{option_map}
use Prim.Native.Nat.{ℕ}
use native.Mathlib.Omega.{arith}
use mathlib.Core.Path.{◌≡◌, ◌∙◌}
use lib.ListN.{length}
use Rattle.lists.proofs.Spans.{made_length}
use Rattle.money.specs.Words.{bits}
use Rattle.format.specs.Book.{Book}
use Rattle.model.specs.declared.Earned.{Earned}
use Rattle.model.specs.Tree.{parents}
use Rattle.model.specs.Outline.{Line, outline}
use Rattle.model.specs.Earned.{earned_at, earned_value, project_earned, spent_in}
use Rattle.model.proofs.Tree.{parents_count}
use Rattle.rows.proofs.Sets.{optional_two}
use Rattle.answers.specs.Rows.{earned_width, earned_row, earned_value_rows, project_earned_rows, outline_width, outline_row, outline_rows}
use Rattle.answers.proofs.Sized.{Sized, sized, one_sized}

-- what is spent takes two numbers, whether it is there or not
pub row_wide : (e : Earned) → length (earned_row e) ≡ earned_width
unfolding earned_row
row_wide e = omega (arith, optional_two (option_map bits (spent_in e)))

pub values_sized : (date : ℕ) (b : Book) (n : ℕ) → length b.activities ≡ n → Sized (earned_value_rows date b) n earned_width
unfolding earned_value_rows earned_value
values_sized date b n e = sized earned_row earned_width row_wide (earned_value b date) n (made_length (earned_at b date) (length (parents b)) ∙ parents_count b ∙ e)

pub project_sized : (date : ℕ) (b : Book) → Sized (project_earned_rows date b) 1 earned_width
unfolding project_earned_rows
project_sized date b = one_sized (earned_row (project_earned b date)) earned_width (row_wide (project_earned b date))

pub line_wide : (date : ℕ) (b : Book) (x : Line) → length (outline_row date b x) ≡ outline_width
unfolding outline_row
line_wide date b x = omega (arith, row_wide (earned_at b date x.index))

pub outline_sized : (date : ℕ) (b : Book) (n : ℕ) → length (outline (parents b)) ≡ n → Sized (outline_rows date b) n outline_width
unfolding outline_rows
outline_sized date b n e = sized (outline_row date b) outline_width (line_wide date b) (outline (parents b)) n e
