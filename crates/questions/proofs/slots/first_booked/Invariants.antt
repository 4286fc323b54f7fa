-- The visitor has no entry on a date before `from`.
-- Assumes nothing.
use Prim.Native.Nat.{suc, ◌-◌, ◌≤◌}
use Rattle.questions.proofs.Booked.{NoneBefore}
use Rattle.questions.proofs.slots.first_booked.Given as goal

abbrev pub invariant-loop-d : goal.invariant-loop-d
invariant-loop-d l = (l.fn.first.0 ≤ l.from.0) × NoneBefore l.diary.good l.visitor l.fn.first.0 l.from.0

abbrev pub decreases-loop-d : goal.decreases-loop-d
decreases-loop-d l = suc l.last.0 - l.from.0
