-- `removal::remove_visitor`: the dates before `from` are done, and n bookings erased.
-- Assumes nothing.
use Prim.Native.Nat.{suc, ◌-◌}
use Rattle.book.specs.Lent.{reading}
use Rattle.apply.proofs.Removals.{Removing}
use Rattle.apply.proofs.removal.remove_visitor.Given as goal

abbrev pub invariant-loop-d : goal.invariant-loop-d
invariant-loop-d l = Removing l.site.settings l.v l.fn.first.0 l.last.0 (reading l.initial.book) l.from.0 (reading l.book) l.n

abbrev pub decreases-loop-d : goal.decreases-loop-d
decreases-loop-d l = suc l.last.0 - l.from.0
