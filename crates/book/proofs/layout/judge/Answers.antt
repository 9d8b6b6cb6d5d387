-- `judge` meets its contract: the answer is the one for the layout's end.
use borrow.Author.Rules.{rules}
use mathlib.Core.Path.{ap, sym, ◌∙◌}
use Rattle.format.specs.Verdict.{answer_of}
use Rattle.book.proofs.layout.judge.Goals as goal

pub returns-in_err-read_layout : goal.returns-in_err-read_layout
unfolding answer_of
returns-in_err-read_layout c = let e = ap (λ v. v.1) c.read_layout.ensures.0 in rw (← e) (search rules)

pub returns : goal.returns
unfolding answer_of
returns c = let e = ap (λ v. v.1) c.read_layout.ensures.0 in rw (← e) (search rules)
