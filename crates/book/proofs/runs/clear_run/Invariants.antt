-- `runs::clear_run`: the blocks before n are cleared and counted.
-- Assumes nothing.
use Prim.Native.Nat.{◌-◌, ◌≤◌}
use mathlib.Core.Path.{◌≡◌}
use lib.ListN.{length}
use Rattle.book.specs.Stores.{Cleared}
use Rattle.book.proofs.runs.clear_run.Given as goal

abbrev pub invariant-loop-n : goal.invariant-loop-n
invariant-loop-n l =
    (length l.book ≡ length l.initial.book) × (l.run.start ≤ l.n) × (l.n ≤ l.run.end) × Cleared l.w l.run.start l.n l.initial.book l.book l.cleared

abbrev pub decreases-loop-n : goal.decreases-loop-n
decreases-loop-n l = l.run.end - l.n
