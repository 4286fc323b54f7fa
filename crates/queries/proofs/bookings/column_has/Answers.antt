-- The cells of the slots before i are empty.
-- Assumes nothing.
use Prim.Native.Nat.{ℕ, ◌-◌}
use mathlib.Core.Path.{◌≡◌, sym, ◌∙◌, ap}
use mathlib.Core.Bool.{Bool, true, not}
use native.Mathlib.Omega.{arith}
use lib.Dec.{eqb}
use borrow.Author.Tests.{eq-eqb, ne_eqb}
use Rattle.model.specs.Bounded.{one}
use Rattle.model.proofs.Sums.{sum-empty, sum-zero, one-zero}
use Rattle.model.proofs.Search.{passed-more}
use Rattle.book.specs.Grids.{cell_at}
use Rattle.book.specs.Lent.{reading}
use Rattle.queries.specs.Shown.{column_count}
use Rattle.queries.proofs.bookings.column_has.Goals as goal

pub returns-then-cell-ne0 : goal.returns-then-cell-ne0
unfolding column_count
returns-then-cell-ne0 c =
    let a = c.args in
    let t : ℕ → Bool = λ k. not (eqb (cell_at a.g.grid (reading a.g.words.now) k a.item) 0) in
    let full : t c.loop-i.i ≡ true = ap not (ne_eqb _ 0 (λ z. c.if-cell-ne0.true (c.cell.ensures ∙ z))) in
    sym (ap not (ne_eqb _ 0 (λ z. one-zero (t c.loop-i.i)
    (sum-zero (λ k. one (t k)) a.lo (a.hi - a.lo) z c.loop-i.i c.loop-i.invariant.0 (omega (arith, c.loop-i.invariant.0, c.loop-i-test.true))) full)))

pub loop-i-preserved : goal.loop-i-preserved
loop-i-preserved c =
    (omega arith, passed-more _ _ c.loop-i.i c.loop-i.invariant.1 (ap not (eq-eqb _ 0 (sym c.cell.ensures ∙ c.if-cell-ne0.false))))

pub returns : goal.returns
unfolding column_count
returns c =
    let a = c.args in
    sym (ap not (eq-eqb _ 0 (sum-empty (λ k. one (not (eqb (cell_at a.g.grid (reading a.g.words.now) k a.item) 0))) a.lo (a.hi - a.lo)
    (λ k g h. ap one (c.loop-i.invariant.1 k g (omega (arith, g, h, c.loop-i-test.false)))))))
