-- Every slot before the one returned is before date d, by the last of them; before slot 0 there is none.
-- Assumes nothing.
use Prim.Native.Nat.{◌≤◌, ◌<◌}
use Rattle.units.proofs.Beginning.retreat.Given as goal

abbrev pub invariant-loop-lo : goal.invariant-loop-lo
invariant-loop-lo l = (l.lo ≤ l.from) × (0 < l.by)

abbrev pub decreases-loop-lo : goal.decreases-loop-lo
decreases-loop-lo l = l.lo
