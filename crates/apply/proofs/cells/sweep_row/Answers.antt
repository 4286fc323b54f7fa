-- `cells::sweep_row`: every cell is swept.
-- Assumes nothing.
use native.Mathlib.Omega.{arith}
use Rattle.book.proofs.Turns.{turning-end}
use Rattle.book.specs.Stores.{swept_row}
use Rattle.apply.proofs.cells.sweep_row.Goals as goal

pub returns : goal.returns
unfolding swept_row
returns c = turning-end c.loop-j.invariant (omega arith)
