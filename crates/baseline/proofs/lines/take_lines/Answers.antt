-- `take_lines` meets its contract: one line a turn.
use native.Mathlib.Omega.{arith}
use mathlib.Core.Path.{◌≡◌, ap, sym, ◌∙◌}
use mathlib.Core.List.{List, foldl}
use lib.ListN.{get_or}
use Rattle.format.specs.Codec.{alike}
use Rattle.format.specs.Format.{baseline_line}
use Rattle.format.specs.InRange.{BaselineLineInRange}
use Rattle.format.specs.Book.{BaselineLine}
use Rattle.format.specs.Verdict.{content}
use Rattle.records.specs.Decoded.{baseline_line_of}
use Rattle.sections.specs.Sections.{elements}
use Rattle.calendar.proofs.Parts.{read_length, reading_none, reading_is, reading_more}
use Rattle.baseline.specs.Lines.{taken}
use Rattle.baseline.proofs.Taking.{taking_none, taking_more, taking_end, taken_all, read_range}
use Rattle.baseline.proofs.lines.take_lines.Goals as goal
use Rattle.baseline.proofs.lines.take_lines.Goals.{After-read_baseline_line-line}

pub loop-init : goal.loop-init
loop-init c = (reading_none _ _ _ _, taking_none _ _ _)

-- what is read is the next line
is_next : (c : After-read_baseline_line-line) →
    let l = baseline_line_of c.read_baseline_line-line.result in
    get_or ((alike c.args.list.count (baseline_line c.args.activities)).read c.args.book.now c.args.list.first).0 c.loop.counter l ≡ l
is_next c = reading_is _ _ _ _ c.loop.invariant.0 c.loop-test.true c.read_baseline_line-line.ensures _

pub take_line-requires : goal.take_line-requires
unfolding elements baseline_line_of
take_line-requires c =
    let lines = c.requires.lines in
    let length-all = read_length (baseline_line c.args.activities) c.args.book.now c.args.list.count c.args.list.first in
    let range = read_range (BaselineLineInRange c.args.activities) _ lines.ranges lines.listed c.loop.counter (baseline_line_of c.read_baseline_line-line.result) (omega (arith, c.loop-test.true, length-all)) (is_next (goal.at.take_line-requires c).After-read_baseline_line-line) in
    omega (arith, range.activity, c.loop.invariant.1.long, c.requires.out_len.0)

pub loop-preserved : goal.loop-preserved
loop-preserved c =
    let length-all = read_length (baseline_line c.args.activities) c.args.book.now c.args.list.count c.args.list.first in (
      reading_more _ _ _ _ c.loop.invariant.0 c.loop-test.true c.read_baseline_line-line.ensures,
      taking_more c.loop.invariant.1 (baseline_line_of c.read_baseline_line-line.result) (omega (arith, c.loop-test.true, length-all)) (is_next (goal.at.loop-preserved c).After-read_baseline_line-line) c.take_line.ensures,
    )

pub shape_of-out : goal.shape_of-out
shape_of-out c = c.loop.invariant.1.long

pub returns : goal.returns
unfolding elements
returns c =
    let loop = c.loop in
    let lines = c.requires.lines in
    let length-all = read_length (baseline_line c.args.activities) c.args.book.now c.args.list.count c.args.list.first in
    taking_end loop.invariant.1 (omega (arith, c.loop-test.false, length-all))
    ∙ ap (λ (ls : List BaselineLine). foldl (taken c.args.last) c.args.out.now ls) (sym lines.listed)
    ∙ taken_all c.args.last (content c.args.book.now) c.args.activities lines.counted lines.ranges c.args.out.now c.requires.out_len.0 c.requires.out_len.1
