-- The dates passed keep the laws.
-- Assumes nothing.
use Prim.Native.Nat.{ℕ, ◌<◌}
use Rattle.book.specs.Lent.{reading}
use Rattle.checking.specs.Kept.{Kept}
use Rattle.checking.proofs.dates.dates.Given as goal

abbrev pub invariant-loop-d : goal.invariant-loop-d
invariant-loop-d l = (k : ℕ) → k < l.d → Kept l.site.settings l.caps (reading l.book) k
