-- `hex::digits`: byte by byte, and values are below 16, so that no byte goes past 255.
-- Assumes nothing.
use Prim.Native.Nat.{◌+◌}
use native.Mathlib.Omega.{arith}
use lib.Bits.{and_le_r}
use Rattle.text.proofs.Together.{values_small, digits_are}
use Rattle.text.proofs.hex.digits.Goals as goal

pub overflow_add-result-2 : goal.overflow_add-result-2
overflow_add-result-2 c =
    omega (arith, values_small (omega arith) c.requires, and_le_r (c.args.v + 0x0606_0606_0606_0606) 0x1010_1010_1010_1010)

pub returns : goal.returns
returns c = digits_are c.args.v (omega arith) c.requires
