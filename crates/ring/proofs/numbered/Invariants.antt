-- The entries passed so far have other numbers.
-- Assumes nothing.
use Prim.Native.Nat.{ℕ, ◌≤◌, ◌<◌}
use mathlib.Core.Path.{◌≡◌}
use mathlib.Core.Bool.{false}
use lib.Dec.{eqb}
use Rattle.model.specs.Tail.{word_of}
use Rattle.ring.proofs.numbered.Given as goal

abbrev pub invariant-loop-i : goal.invariant-loop-i
invariant-loop-i l = (l.i ≤ l.entries) × ((k : ℕ) → k < l.i → eqb (word_of l.tail k 0) l.order ≡ false)
