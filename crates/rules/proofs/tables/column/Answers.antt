-- The words of the column or-ed so far.
-- Assumes nothing.
use Prim.Native.Nat.{ℕ, ◌+◌, ◌*◌}
use mathlib.Core.Path.{◌∙◌, ap}
use lib.Bits.{bit_or}
use lib.ListN.{get_or}
use Rattle.rules.proofs.Barring.{ors-none, ors-more}
use Rattle.rules.proofs.tables.column.Goals as goal

pub loop-p-init : goal.loop-p-init
loop-p-init c = ors-none _

pub loop-p-preserved : goal.loop-p-preserved
loop-p-preserved c =
    let a = c.args in
    let f : ℕ → ℕ = λ p. get_or a.rows.now (p * a.width + a.k) 0 in
    ap (λ (x : ℕ). bit_or x (f c.loop-p.p)) c.loop-p.invariant ∙ ors-more f c.loop-p.p
