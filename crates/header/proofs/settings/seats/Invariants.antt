-- The capacities passed are in place.
-- Assumes nothing.
use Prim.Native.Nat.{ℕ, ◌<◌}
use mathlib.Core.Path.{◌≡◌}
use lib.ListN.{length, get_or}
use Rattle.header.specs.Heads.{seat_of}
use Rattle.header.proofs.settings.seats.Given as goal

abbrev pub invariant-loop-g : goal.invariant-loop-g
invariant-loop-g l = (length l.all ≡ 16) × ((k : ℕ) → k < l.g → get_or l.all k 0 ≡ seat_of l.words l.dining k)
