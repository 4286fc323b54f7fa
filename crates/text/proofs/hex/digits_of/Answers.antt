-- `hex::digits_of`: each byte is the digit of its value.
-- Assumes nothing.
use native.Mathlib.Omega.{arith}
use Rattle.text.specs.Digits.{nibble}
use Rattle.text.proofs.Together.{values-by, digits-shown}
use Rattle.text.proofs.hex.digits_of.Goals as goal

pub digits-requires : goal.digits-requires
digits-requires c = values-by (nibble c.args.w) (λ k. omega arith) c.spread.ensures

pub returns : goal.returns
returns c = digits-shown c.args.w c.spread.ensures c.digits.ensures
