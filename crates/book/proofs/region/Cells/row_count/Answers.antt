-- One row of one-word cells is a run of one slot.
-- Assumes nothing.
use Rattle.book.specs.Lent.{reading}
use mathlib.Core.Path.{◌∙◌}
use Rattle.book.proofs.RowRuns.{one-row}
use Rattle.book.proofs.region.Cells.row_count.Goals as goal

pub returns : goal.returns
returns c =
    let a = c.args in
    c.rows_count.ensures ∙ one-row a.self.grid (reading a.self.words.now) a.w a.slot
