-- `receive`: a call that was interrupted took nothing.
-- Assumes nothing.
use Rattle.std.specs.Io.KnownBytes.{Keeps}
use Rattle.frames.proofs.receive.Given as goal

abbrev pub invariant-loop : goal.invariant-loop
invariant-loop g l = Keeps (g.R.Read.remaining l.initial.input) (g.R.Read.remaining l.input)
