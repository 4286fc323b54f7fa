-- The cells before v are counted.
-- Assumes nothing.
use Prim.Native.Nat.{◌≤◌}
use Rattle.book.specs.Lent.{reading}
use Rattle.pages.proofs.Shows.{Tallied}
use Rattle.pages.proofs.tally.tally.Given as goal

abbrev pub invariant-loop-v : goal.invariant-loop-v
invariant-loop-v l = (l.v ≤ l.diary.site.settings.visitors) × Tallied l.attend.grid (reading l.attend.words.now) l.session.0 l.v l.table
