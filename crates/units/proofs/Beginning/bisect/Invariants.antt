-- The cut stays between the two ends, which meet.
-- Assumes nothing.
use Prim.Native.Nat.{◌-◌}
use Rattle.units.specs.Units.{day_of, Bracket}
use Rattle.units.proofs.Beginning.bisect.Given as goal

abbrev pub invariant-loop-lo : goal.invariant-loop-lo
invariant-loop-lo l = Bracket (day_of l.self.each l.self.late) l.self.n l.self.d l.lo l.hi

abbrev pub decreases-loop-lo : goal.decreases-loop-lo
decreases-loop-lo l = l.hi - l.lo
