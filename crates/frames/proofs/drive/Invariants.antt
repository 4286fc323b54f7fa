-- `drive`: every turn goes on from where the last one ended.
-- Assumes nothing.
use Rattle.std.proofs.Common.{length}
use Rattle.frames.proofs.Turns.{Since}
use Rattle.frames.proofs.drive.Given as goal

abbrev pub invariant-loop : goal.invariant-loop
invariant-loop g l =
    Since
    (g.R.Read.remaining l.initial.input)
    (g.R.Read.remaining l.input)
    (g.W.Write.contents l.initial.output)
    (g.W.Write.contents l.output)
    (length l.initial.chunk)
    l.turn
    l.book
