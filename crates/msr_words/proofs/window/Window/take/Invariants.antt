-- The places so far are filled.
use Rattle.msr_words.specs.Window.{AreTaken}
use Rattle.msr_words.proofs.window.Window.take.Given as goal

abbrev pub invariant-loop-place : goal.invariant-loop-place
invariant-loop-place l = AreTaken l.samples l.first l.place l.self-inside.sizes l.self-inside.kept
