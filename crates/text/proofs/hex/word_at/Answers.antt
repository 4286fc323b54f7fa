-- `hex::word_at`: the word of these bytes.
-- Assumes nothing.
use Prim.Native.Nat.{◌+◌, ◌-◌}
use mathlib.Core.Path.{◌≡◌, ◌∙◌, ap}
use native.Mathlib.Omega.{arith}
use Rattle.text.specs.Digits.{word_in}
use Rattle.text.proofs.Together.{bytes-read}
use Rattle.text.proofs.hex.word_at.Goals as goal

pub returns : goal.returns
returns c =
    let a = c.args in
    let k : a.at + 8 - a.at ≡ 8 = omega arith in
    let whole = rw c.unwrap-bytes.ensures at c.try_into.ensures.1 in
    let e = rw k at whole.same in
    c.word_of.ensures ∙ ap word_in (bytes-read a.s.now a.at c.requires (λ i. omega (arith, c.type_inv.s i)) e c.from_be_bytes.ensures)
