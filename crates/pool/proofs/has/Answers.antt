-- Shift and mask is the bit.
-- Assumes nothing.
use mathlib.Core.Path.{ap}
use Prim.Native.Nat.{ℕ, ◌/◌, ◌^◌}
use lib.Dec.{eqb}
use Rattle.pool.proofs.Masks.{low-is}
use Rattle.pool.proofs.has.Goals as goal

pub returns : goal.returns
returns c = ap (λ (x : ℕ). eqb x 1) (low-is (c.args.w / 2 ^ c.args.k))
