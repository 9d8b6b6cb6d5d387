-- `project_earned_of` meets its contract: one row, where it fits.
use Rattle.std.specs.Prelude.{Ok}
use native.Mathlib.Omega.{arith}
use mathlib.Core.Path.{ap, sym, ◌∙◌, subst}
use lib.Seq.{sets}
use borrow.Author.Rules.{rules}
use Rattle.format.specs.Verdict.{content}
use Rattle.model.specs.declared.Earned.{Earned}
use Rattle.answers.specs.Rows.{earned_row, project_earned_rows}
use Rattle.answers.specs.Calls.{Puts}
use Rattle.answers.proofs.Sized.{no_room}
use Rattle.answers.proofs.SizedEarned.{project_sized}
use Rattle.progress.proofs.Answering.{project_put}
use Rattle.progress.proofs.project.project_earned_of.Goals as goal

pub returns-then-out-lt-EARNED_WIDTH : goal.returns-then-out-lt-EARNED_WIDTH
returns-then-out-lt-EARNED_WIDTH c =
    let b = content c.args.book.now in
    no_room (project_earned_rows c.args.date b) c.args.out.now (project_sized c.args.date b) (omega arith)

pub returns : goal.returns
returns c =
    let b = content c.args.book.now in
    subst (Puts (project_earned_rows c.args.date b) c.args.out.now (Ok 1))
    (sym (c.put_earned.ensures ∙ ap (λ (e : Earned). sets c.args.out.now 0 (earned_row e)) c.project_earned.ensures))
    (project_put c.args.date b c.args.out.now (omega (arith, c.if-out-lt-EARNED_WIDTH.false)))
