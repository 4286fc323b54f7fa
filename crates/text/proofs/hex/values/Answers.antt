-- `hex::values`: byte by byte.
-- Assumes nothing.
use native.Mathlib.Omega.{arith}
use Rattle.text.proofs.Together.{values-are}
use Rattle.text.proofs.hex.values.Goals as goal

pub returns : goal.returns
returns c = values-are c.args.x (omega arith)
