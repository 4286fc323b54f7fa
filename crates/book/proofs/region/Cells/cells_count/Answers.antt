-- After j cells n is their count.
-- Assumes nothing.
use Rattle.book.specs.Lent.{reading}
use Prim.Native.Nat.{ℕ, ◌+◌}
use mathlib.Core.Path.{◌≡◌, sym, ◌∙◌, ap, ap₂}
use native.Mathlib.Omega.{arith}
use lib.Dec.{eqb}
use Rattle.model.specs.Bounded.{count, one}
use Rattle.book.specs.Grids.{cell_at}
use Rattle.book.specs.Rows.{row_count}
use Rattle.model.proofs.ReadBack.{one-le}
use Rattle.book.proofs.Counts.{count-more, count-le, one-of}
use Rattle.book.proofs.region.Cells.cells_count.Goals as goal

pub overflow_add-n : goal.overflow_add-n
overflow_add-n c =
    let a = c.args in
    omega (arith, c.from-n.ensures, one-of (eqb c.cell.result a.w), one-le (eqb c.cell.result a.w), c.loop-j.invariant, count-le (λ k. eqb (cell_at a.self.grid (reading a.self.words.now) a.slot k) a.w) 0 c.loop-j.j)

pub loop-j-preserved : goal.loop-j-preserved
loop-j-preserved c =
    let a = c.args in
    ap₂ ◌+◌ c.loop-j.invariant (c.from-n.ensures ∙ one-of (eqb c.cell.result a.w) ∙ ap (λ (x : ℕ). one (eqb x a.w)) c.cell.ensures)
    ∙ sym (count-more (λ k. eqb (cell_at a.self.grid (reading a.self.words.now) a.slot k) a.w) c.loop-j.j)

pub returns : goal.returns
unfolding row_count
returns c =
    let a = c.args in
    let e : c.loop-j.j ≡ a.self.grid.items = omega arith in
    c.loop-j.invariant ∙ ap (count (λ k. eqb (cell_at a.self.grid (reading a.self.words.now) a.slot k) a.w)) e
