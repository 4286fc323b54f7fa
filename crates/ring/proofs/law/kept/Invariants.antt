-- The entries passed so far keep the law.
-- Assumes nothing.
use Prim.Native.Nat.{ℕ, ◌≤◌, ◌<◌}
use mathlib.Core.Path.{◌≡◌}
use mathlib.Core.Bool.{true}
use Rattle.model.specs.Tail.{entry_kept}
use Rattle.ring.proofs.law.kept.Given as goal

abbrev pub invariant-loop-i : goal.invariant-loop-i
invariant-loop-i l = (l.i ≤ 64) × ((k : ℕ) → k < l.i → entry_kept l.tail k ≡ true)
