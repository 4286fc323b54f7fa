-- `stream::answer_lines`: each turn answers the first line of what is left.
-- Assumes nothing.
use Prim.Native.Nat.{◌-◌}
use lib.ListN.{length}
use Rattle.lines.proofs.Turns.{So}
use Rattle.lines.proofs.stream.answer_lines.Given as goal

abbrev pub invariant-loop-t : goal.invariant-loop-t
invariant-loop-t l = So l.s l.initial.book l.chunk l.initial.out l.from l.book l.out l.at l.i

abbrev pub decreases-loop-t : goal.decreases-loop-t
decreases-loop-t l = length l.chunk - l.i
