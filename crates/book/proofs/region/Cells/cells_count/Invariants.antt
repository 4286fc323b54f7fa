-- After j cells n is their count.
-- Assumes nothing.
use Rattle.book.specs.Lent.{reading}
use mathlib.Core.Path.{◌≡◌}
use lib.Dec.{eqb}
use Rattle.model.specs.Bounded.{count}
use Rattle.book.specs.Grids.{cell_at}
use Rattle.book.proofs.region.Cells.cells_count.Given as goal

abbrev pub invariant-loop-j : goal.invariant-loop-j
invariant-loop-j l = l.n ≡ count (λ k. eqb (cell_at l.self.grid (reading l.self.words.now) l.slot k) l.w) l.j
