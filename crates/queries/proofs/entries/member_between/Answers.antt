-- No slot before i has the bit.
-- Assumes nothing.
use Prim.Native.Nat.{◌/◌, ◌%◌}
use mathlib.Core.Path.{sym, ◌∙◌}
use native.Mathlib.Omega.{arith}
use Rattle.model.specs.Bounded.{bit}
use Rattle.book.specs.Grids.{cell_at}
use Rattle.book.specs.Lent.{reading}
use Rattle.queries.proofs.Free.{between-yes, between-no}
use Rattle.model.proofs.Search.{passed-more}
use Rattle.queries.proofs.entries.member_between.Goals as goal

pub returns-then-member : goal.returns-then-member
returns-then-member c =
    between-yes _ _ _ c.loop-i.i c.loop-i.invariant.0 c.loop-i-test.true (sym c.member.ensures ∙ c.if-member.true)

pub loop-i-preserved : goal.loop-i-preserved
loop-i-preserved c =
    (omega arith, passed-more _ _ c.loop-i.i c.loop-i.invariant.1 (sym c.member.ensures ∙ c.if-member.false))

pub returns : goal.returns
returns c =
    let a = c.args in
    between-no (λ k. bit (cell_at a.g.grid (reading a.g.words.now) k (a.v / 32)) (a.v % 32)) a.lo a.hi
    (λ k h g. c.loop-i.invariant.1 k h (omega (arith, g, c.loop-i-test.false)))
