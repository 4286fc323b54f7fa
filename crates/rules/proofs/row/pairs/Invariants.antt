-- The flag says whether the pairs passed are good.
-- Assumes nothing.
use Prim.Native.Nat.{ℕ, ◌+◌, ◌*◌, ◌<◌}
use mathlib.Core.Bool.{not}
use lib.ListN.{get_or}
use Rattle.rules.specs.Rows.{Pair, Decides}
use Rattle.rules.proofs.row.pairs.Given as goal

abbrev pub invariant-loop-pair : goal.invariant-loop-pair
invariant-loop-pair l =
    Decides (not l.bad) ((k : ℕ) → k < l.pair-index → Pair l.limit l.stands (get_or l.row (k * 2) 0) (get_or l.row (k * 2 + 1) 0))
