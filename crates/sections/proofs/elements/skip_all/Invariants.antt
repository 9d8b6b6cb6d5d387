-- `skip_all` meets its contract: one element a turn.
use Rattle.format.specs.Codec.{stay}
use Rattle.sections.specs.Elements.{codec_of}
use Rattle.sections.proofs.Lists.{Going}
use Rattle.sections.proofs.elements.skip_all.Given as goal

abbrev pub invariant-loop : goal.invariant-loop
invariant-loop l = Going (λ (x : Unit {0}). codec_of l.element) stay l.book l.count tt l.initial.next l.counter tt l.next
