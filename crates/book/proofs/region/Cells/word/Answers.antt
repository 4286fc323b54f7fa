-- The word at its place in the cell.
-- Assumes nothing.
use Rattle.book.specs.Lent.{reading}
use Prim.Native.Nat.{ℕ}
use mathlib.Core.Path.{ap}
use native.Mathlib.Omega.{arith}
use lib.ListN.{get_or}
use Rattle.book.specs.Grids.{word_at}
use Rattle.book.proofs.region.Cells.word.Goals as goal

pub returns : goal.returns
unfolding reading word_at
returns c =
    ap (λ (n : ℕ). get_or (reading c.args.self.words.now) n 0) (omega (arith, c.at.ensures.at))
