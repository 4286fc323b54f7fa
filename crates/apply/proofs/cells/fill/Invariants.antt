-- `cells::fill`: the slots before i are filled.
-- Assumes nothing.
use Rattle.book.specs.Lent.{reading}
use Rattle.book.specs.Stores.{stored}
use Rattle.book.proofs.Turns.{Turning}
use Rattle.apply.proofs.cells.fill.Given as goal

abbrev pub invariant-loop-i : goal.invariant-loop-i
invariant-loop-i l = Turning (λ i. stored l.g l.c i l.item) l.from l.to (reading l.initial.book) l.i (reading l.book)
