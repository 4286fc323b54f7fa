-- `bits::mark_three`: three marks, one after the other.
-- Assumes nothing.
use Rattle.book.proofs.Turns.{wrote_then}
use Rattle.apply.specs.Stores.{marked_three}
use Rattle.apply.proofs.bits.mark_three.Goals as goal

pub returns : goal.returns
unfolding marked_three
returns g c = wrote_then (wrote_then c.mark.ensures c.mark-2.ensures) c.mark-3.ensures
