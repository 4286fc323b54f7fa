-- The first probe on date d or later is an end, and so is the number of slots.
-- Assumes nothing.
-- no slot is behind the last
use Prim.Native.Nat.{◌-◌, ◌≤◌, ◌<◌}
use Rattle.units.proofs.Beginning.reach.Given as goal

abbrev pub invariant-loop-hi : goal.invariant-loop-hi
invariant-loop-hi l = (l.from ≤ l.hi) × (0 < l.by)

abbrev pub decreases-loop-hi : goal.decreases-loop-hi
decreases-loop-hi l = l.self.n - l.hi
