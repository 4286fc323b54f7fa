-- The three cells, each by its own read.
-- Assumes nothing.
use Rattle.queries.specs.Shown.{empty_in}
use Rattle.queries.proofs.rooms.empty_in.Goals as goal

pub returns : goal.returns
unfolding empty_in
returns c = rw (← c.cell.ensures, ← c.cell-2.ensures, ← c.cell-3.ensures)
