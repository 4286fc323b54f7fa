-- The test says no for each slot passed so far.
-- Assumes nothing.
use Prim.Native.Nat.{◌≤◌}
use Rattle.queries.proofs.Found.{AllNo}
use Rattle.queries.proofs.search.first_slot.Given as goal

abbrev pub invariant-loop-i : goal.invariant-loop-i
invariant-loop-i g l = (l.first ≤ l.i) × AllNo (goal.F-post g l.found) l.first l.i
