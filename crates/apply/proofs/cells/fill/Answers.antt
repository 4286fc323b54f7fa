-- `cells::fill`: the slots before `to` are filled.
-- Assumes nothing.
use native.Mathlib.Omega.{arith}
use Rattle.book.proofs.Turns.{turning-end}
use Rattle.apply.specs.Stores.{filled}
use Rattle.apply.proofs.cells.fill.Goals as goal

pub returns : goal.returns
unfolding filled
returns c = turning-end c.loop-i.invariant (omega arith)
