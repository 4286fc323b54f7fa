-- The first blocks, and what is left behind them.
-- Assumes nothing.
use Prim.Native.Nat.{ℕ}
use mathlib.Core.Path.{sym, ◌∙◌, ap, ap₂}
use mathlib.Core.Bool.{Bool, not, ◌||◌}
use lib.Dec.{eqb}
use Rattle.book.specs.Rows.{part_count}
use Rattle.book.proofs.RowParts.{blocks-or-rest}
use Rattle.book.proofs.rows.part_has.Goals as goal

pub returns-then-blocks_have : goal.returns-then-blocks_have
returns-then-blocks_have c =
    let here = c.if-blocks_have.true in
    here ∙ ap (λ (b : Bool). b || not (eqb (part_count (c.as_chunks.result.1.now) c.args.w) 0)) (sym here)
    ∙ blocks-or-rest 512 c.args.row.now c.args.w c.as_chunks.ensures.front c.as_chunks.ensures.back c.blocks_have.ensures

pub returns-else-blocks_have : goal.returns-else-blocks_have
returns-else-blocks_have c =
    ap₂ (λ (b : Bool) (n : ℕ). b || not (eqb n 0)) (sym c.if-blocks_have.false) c.part_count.ensures
    ∙ blocks-or-rest 512 c.args.row.now c.args.w c.as_chunks.ensures.front c.as_chunks.ensures.back c.blocks_have.ensures
