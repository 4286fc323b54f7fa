-- `cells::sweep_row`: the cells before j are swept.
-- Assumes nothing.
use Rattle.book.specs.Lent.{reading}
use Rattle.book.specs.Stores.{cleared}
use Rattle.book.proofs.Turns.{Turning}
use Rattle.apply.proofs.cells.sweep_row.Given as goal

abbrev pub invariant-loop-j : goal.invariant-loop-j
invariant-loop-j l = Turning (λ j. cleared l.g l.w l.slot j) 0 l.g.items (reading l.initial.book) l.j (reading l.book)
