-- `hex::spread`: byte by byte.
-- Assumes nothing.
use native.Mathlib.Omega.{arith}
use Rattle.text.proofs.Together.{spread-is}
use Rattle.text.proofs.hex.spread.Goals as goal

pub returns : goal.returns
returns c = spread-is c.args.w (omega arith)
