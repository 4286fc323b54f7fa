-- `bits::mark_each`: the slots before i are marked.
-- Assumes nothing.
use Rattle.std.specs.Prelude.{eqb, not}
use Rattle.book.specs.Lent.{reading}
use Rattle.book.proofs.Turns.{Turning}
use Rattle.apply.specs.Stores.{marked}
use Rattle.apply.proofs.bits.mark_each.Given as goal

abbrev pub invariant-loop-i : goal.invariant-loop-i
invariant-loop-i g l = Turning (λ i. marked l.g (not (eqb g.row.ON 0)) l.v i) l.from l.to (reading l.initial.book) l.i (reading l.book)
