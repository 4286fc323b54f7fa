-- `line::line_words`: the words before k are read.
-- Assumes nothing.
use mathlib.Core.Path.{◌≡◌}
use lib.ListN.{take}
use Rattle.model.specs.Lines.{line_words}
use Rattle.framing.proofs.line.line_words.Given as goal

abbrev pub invariant-loop-k : goal.invariant-loop-k
invariant-loop-k l = take l.k l.word-items ≡ take l.k (line_words l.line)
