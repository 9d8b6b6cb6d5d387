-- `lines_of` meets its contract: without a baseline there is none in the list.
use Rattle.std.specs.Prelude.{None, Option, Some, option_map, unwrap_or, ℕ}
use mathlib.Core.Path.{◌≡◌, refl, sym, ap, ◌∙◌}
use mathlib.Core.List.{List, []}
use Rattle.format.specs.Reader.{many}
use Rattle.format.specs.Codec.{times}
use Rattle.format.specs.Format.{baseline_line}
use Rattle.sections.specs.declared.Section.{Section}
use Rattle.sections.specs.Sections.{elements, alike_in}
use Rattle.book.specs.Layout.{lines_of}
use Rattle.format.specs.Position.{Pos}
use Rattle.baseline.proofs.lines.lines_of.Goals as goal

listed : (s : List ℕ) (n : ℕ) (lines : Option Section) (p : Pos) →
    unwrap_or (option_map (alike_in (baseline_line n) s) lines) [] ≡ alike_in (baseline_line n) s (unwrap_or lines (record { count = 0; first = p; next = p }))
unfolding elements times many
listed s n None p = refl
listed s n (Some l) p = refl

pub returns : goal.returns
unfolding lines_of
returns c s n = listed s n c.args.baseline.lines c.args.baseline.next ∙ ap (alike_in (baseline_line n) s) (sym c.unwrap_or.ensures)
