-- `cells::sweep_rows`: the slots before i are swept.
-- Assumes nothing.
use Rattle.book.specs.Lent.{reading}
use Rattle.book.specs.Stores.{swept_row}
use Rattle.book.proofs.Turns.{Turning}
use Rattle.apply.proofs.cells.sweep_rows.Given as goal

abbrev pub invariant-loop-i : goal.invariant-loop-i
invariant-loop-i l = Turning (λ i. swept_row l.g l.w i) l.from l.to (reading l.initial.book) l.i (reading l.book)
