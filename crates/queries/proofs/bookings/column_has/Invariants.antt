-- The cells of the slots before i are empty.
-- Assumes nothing.
use Prim.Native.Nat.{ℕ, ◌≤◌, ◌<◌}
use mathlib.Core.Path.{◌≡◌}
use mathlib.Core.Bool.{false, not}
use lib.Dec.{eqb}
use Rattle.book.specs.Grids.{cell_at}
use Rattle.book.specs.Lent.{reading}
use Rattle.queries.proofs.bookings.column_has.Given as goal

abbrev pub invariant-loop-i : goal.invariant-loop-i
invariant-loop-i l = (l.lo ≤ l.i) × ((k : ℕ) → l.lo ≤ k → k < l.i → not (eqb (cell_at l.g.grid (reading l.g.words.now) k l.item) 0) ≡ false)
