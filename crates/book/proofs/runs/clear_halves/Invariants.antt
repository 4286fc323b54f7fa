-- `runs::clear_halves`: the blocks before n and those before n + half are cleared and counted, and whole blocks are left.
-- Assumes nothing.
use Prim.Native.Nat.{◌+◌, ◌-◌, ◌%◌, ◌≤◌}
use mathlib.Core.Path.{◌≡◌}
use lib.ListN.{length}
use Rattle.book.proofs.Halves.{Halves}
use Rattle.book.proofs.runs.clear_halves.Given as goal

abbrev pub invariant-loop-n : goal.invariant-loop-n
invariant-loop-n l =
    (length l.book ≡ length l.initial.book) × (l.start ≤ l.n) × (l.n ≤ l.start + l.half) × ((l.start + l.half - l.n) % 64 ≡ 0)
    × Halves l.w l.start l.n (l.start + l.half) (l.n + l.half) l.initial.book l.book l.cleared

abbrev pub decreases-loop-n : goal.decreases-loop-n
decreases-loop-n l = l.start + l.half - l.n
