-- `hex::packed`: byte by byte.
-- Assumes nothing.
use native.Mathlib.Omega.{arith}
use Rattle.text.proofs.Together.{packed-is}
use Rattle.text.proofs.hex.packed.Goals as goal

pub returns : goal.returns
returns c = packed-is c.args.v (omega arith) c.requires
