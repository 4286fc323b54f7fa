-- The word at the cell's place.
-- Assumes nothing.
use Rattle.book.specs.Lent.{reading}
use Rattle.book.specs.Grids.{cell_at}
use Rattle.book.proofs.region.Cells.cell.Goals as goal

pub returns : goal.returns
unfolding reading cell_at
returns c = rw c.at.ensures.at
