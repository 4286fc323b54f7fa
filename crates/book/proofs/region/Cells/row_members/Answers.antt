-- The members of the block of one row.
-- Assumes nothing.
use Rattle.book.specs.Lent.{reading}
use Prim.Native.Nat.{◌+◌}
use mathlib.Core.Path.{refl, ◌∙◌}
use Rattle.book.proofs.RowRuns.{part-members}
use Rattle.book.proofs.region.Cells.row_members.Goals as goal

pub returns : goal.returns
returns c =
    c.members.ensures ∙ part-members c.args.self.grid c.args.slot (c.args.slot + 1) c.requires.width_value.0 (reading c.args.self.words.now) _ c.block.ensures refl
