-- The flag says whether the cells passed are within bounds.
-- Assumes nothing.
use Prim.Native.Nat.{ℕ, ◌≤◌, ◌<◌}
use mathlib.Core.Bool.{not}
use lib.ListN.{length, get_or}
use Rattle.rules.specs.Rows.{Decides}
use Rattle.rules.proofs.row.bounded.Given as goal

abbrev pub invariant-loop-cell : goal.invariant-loop-cell
invariant-loop-cell l = Decides (not l.bad) ((k : ℕ) → k < length l.yielded → get_or l.row k 0 ≤ get_or l.bounds k 0)
