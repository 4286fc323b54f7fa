-- Or with the power is the word with the bit.
-- Assumes nothing.
use native.Mathlib.Omega.{arith}
use Rattle.pool.proofs.Masks.{shl_is, or_is}
use Rattle.pool.proofs.with.Goals as goal

pub returns : goal.returns
returns c = rw (shl_is c.args.k (omega arith)) (or_is c.args.w c.args.k (omega arith) (omega arith))
