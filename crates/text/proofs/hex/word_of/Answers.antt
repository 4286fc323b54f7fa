-- `hex::word_of`: digits are bytes that come back when their values are written.
-- Assumes nothing.
use mathlib.Core.Path.{◌∙◌}
use native.Mathlib.Omega.{arith}
use Rattle.text.specs.Digits.{byte_at, value_in}
use Rattle.text.proofs.Together.{values-by, read_is}
use Rattle.text.proofs.hex.word_of.Goals as goal

pub packed-word-requires : goal.packed-word-requires
packed-word-requires c = values-by (λ k. value_in (byte_at c.args.x k)) (λ k. omega arith) c.values-v.ensures

pub digits-requires : goal.digits-requires
digits-requires c = values-by (λ k. value_in (byte_at c.args.x k)) (λ k. omega arith) c.values-v.ensures

pub returns : goal.returns
returns c = c.then_some.ensures ∙ read_is c.args.x (omega arith) c.values-v.ensures c.digits.ensures c.packed-word.ensures
