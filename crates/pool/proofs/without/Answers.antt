-- And with the mask is the word without it.
-- Assumes nothing.
use native.Mathlib.Omega.{arith}
use Rattle.pool.proofs.Masks.{shl_is, and_is}
use Rattle.pool.proofs.without.Goals as goal

pub returns : goal.returns
returns c = rw (shl_is c.args.k (omega arith)) (and_is c.args.w c.args.k (omega arith) (omega arith))
