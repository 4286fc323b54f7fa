-- `cells::sweep_rows`: the slots before `to` are swept.
-- Assumes nothing.
use native.Mathlib.Omega.{arith}
use Rattle.book.proofs.Turns.{turning-end}
use Rattle.book.specs.Stores.{swept}
use Rattle.apply.proofs.cells.sweep_rows.Goals as goal

pub returns : goal.returns
unfolding swept
returns c = turning-end c.loop-i.invariant (omega arith)
