-- The count of the block.
-- Assumes nothing.
use Rattle.book.specs.Lent.{reading}
use mathlib.Core.Path.{◌∙◌}
use Rattle.book.proofs.RowRuns.{part-counts}
use Rattle.book.proofs.region.Cells.rows_count.Goals as goal

pub returns : goal.returns
returns c =
    c.part_count.ensures ∙ part-counts c.args.self.grid c.args.lo c.args.hi c.requires.width_value (reading c.args.self.words.now) _ c.block.ensures c.args.w
