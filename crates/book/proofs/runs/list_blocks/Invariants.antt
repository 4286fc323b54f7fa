-- `runs::list_blocks`: the blocks before n that hold w are listed and counted.
-- Assumes nothing.
use Prim.Native.Nat.{◌-◌, ◌≤◌}
use mathlib.Core.Path.{◌≡◌}
use lib.ListN.{length}
use Rattle.book.specs.Stores.{Holds}
use Rattle.book.proofs.runs.list_blocks.Given as goal

abbrev pub invariant-loop-n : goal.invariant-loop-n
invariant-loop-n l =
    (length l.places ≡ length l.initial.places) × (l.run.start ≤ l.n) × (l.n ≤ l.run.end) × Holds l.w l.run.start l.n l.book l.places l.blocks l.words

abbrev pub decreases-loop-n : goal.decreases-loop-n
decreases-loop-n l = l.run.end - l.n
