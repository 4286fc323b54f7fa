-- No slot before i has the bit.
-- Assumes nothing.
use Rattle.book.specs.Lent.{reading}
use Prim.Native.Nat.{ℕ, ◌/◌, ◌%◌, ◌≤◌, ◌<◌}
use mathlib.Core.Path.{◌≡◌}
use mathlib.Core.Bool.{false}
use Rattle.model.specs.Bounded.{bit}
use Rattle.book.specs.Grids.{cell_at}
use Rattle.queries.proofs.entries.member_between.Given as goal

abbrev pub invariant-loop-i : goal.invariant-loop-i
invariant-loop-i l = (l.lo ≤ l.i) × ((k : ℕ) → l.lo ≤ k → k < l.i → bit (cell_at l.g.grid (reading l.g.words.now) k (l.v / 32)) (l.v % 32) ≡ false)
