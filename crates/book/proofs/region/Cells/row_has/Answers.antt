-- A cell holds w where the count is not 0.
-- Assumes nothing.
use Rattle.book.specs.Lent.{reading}
use mathlib.Core.Path.{sym, ◌∙◌, ap}
use mathlib.Core.Bool.{not}
use lib.Dec.{eqb}
use Prim.Native.Nat.{ℕ}
use Rattle.book.proofs.RowParts.{row-has-count}
use Rattle.book.proofs.region.Cells.row_has.Goals as goal

pub returns : goal.returns
returns c =
    let a = c.args in
    ap (λ (n : ℕ). not (eqb n 0)) c.row_count.ensures ∙ sym (row-has-count a.self.grid (reading a.self.words.now) a.slot a.w)
