-- The block has the word.
-- Assumes nothing.
use Rattle.book.specs.Lent.{reading}
use Prim.Native.Nat.{ℕ}
use mathlib.Core.Path.{◌∙◌, ap}
use mathlib.Core.Bool.{not}
use lib.Dec.{eqb}
use Rattle.book.proofs.RowRuns.{part-counts}
use Rattle.book.proofs.region.Cells.rows_have.Goals as goal

pub returns : goal.returns
returns c =
    c.part_has.ensures
    ∙ ap (λ (n : ℕ). not (eqb n 0))
    (part-counts c.args.self.grid c.args.lo c.args.hi c.requires.width_value (reading c.args.self.words.now) _ c.block.ensures c.args.w)
