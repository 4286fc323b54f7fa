-- The table of the words or-ed together.
-- Assumes nothing.
use Prim.Native.Nat.{ℕ, ◌+◌, ◌*◌, ◌/◌, ◌%◌}
use mathlib.Core.Path.{◌∙◌, ap}
use mathlib.Core.Bool.{not}
use native.Mathlib.Omega.{arith}
use lib.ListN.{get_or}
use Rattle.model.specs.Bounded.{bit}
use Rattle.rules.proofs.Barring.{bit-ors}
use Rattle.rules.proofs.tables.bar_date.Goals as goal

pub returns : goal.returns
returns c =
    let a = c.args in
    λ m h. c.bar.ensures.each m (omega (arith, c.columns-words.ensures.size))
    ∙ ap (λ (x : ℕ). not (bit x (m % 32))) (c.columns-words.ensures.each (m / 32) (omega arith))
    ∙ ap not (bit-ors (λ p. get_or a.rows.now (p * a.width + m / 32) 0) a.n (m % 32))
