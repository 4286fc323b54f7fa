-- The flag says whether the meetings passed stand.
-- Assumes nothing.
use Prim.Native.Nat.{ℕ, ◌<◌}
use mathlib.Core.Path.{◌≡◌}
use mathlib.Core.Bool.{false, not}
use lib.ListN.{get_or}
use Rattle.rules.specs.Rows.{Decides}
use Rattle.rules.proofs.row.stood.Given as goal

abbrev pub invariant-loop-cell : goal.invariant-loop-cell
invariant-loop-cell l = Decides (not l.bad) ((k : ℕ) → k < l.cell-index → get_or l.stands (get_or l.row k 0) false ≡ false)
