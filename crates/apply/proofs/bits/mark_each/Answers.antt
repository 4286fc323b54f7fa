-- `bits::mark_each`: the slots before `to` are marked.
-- Assumes nothing.
use native.Mathlib.Omega.{arith}
use Rattle.book.proofs.Turns.{turning-end}
use Rattle.apply.specs.Stores.{marked_all}
use Rattle.apply.proofs.bits.mark_each.Goals as goal

pub returns : goal.returns
unfolding marked_all
returns g c = turning-end c.loop-i.invariant (omega arith)
