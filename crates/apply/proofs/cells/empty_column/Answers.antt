-- `cells::empty_column`: the slots before `to` are emptied, and n of their cells were full.
-- Assumes nothing.
use Rattle.std.proofs.Common.{arith}
use Rattle.book.specs.Lent.{reading}
use Rattle.book.proofs.Turns.{turning-next, turning-end}
use Rattle.apply.specs.Stores.{filled}
use Rattle.apply.proofs.Counts.{column-few, column-none, column-next}
use Rattle.apply.proofs.cells.empty_column.Goals as goal

pub overflow_add-n : goal.overflow_add-n
overflow_add-n c =
    let a = c.args in
    let k = column-next a.g c.requires.width_value a.item c.requires.item_lt_g c.loop-i.i a.to _ c.loop-i-test.true c.from-n.ensures c.cell-held.ensures in
    omega (arith, k, column-few a.g (reading a.book.now) a.item a.from a.to)

pub loop-i-preserved : goal.loop-i-preserved
loop-i-preserved c =
    let a = c.args in
    let k = column-next a.g c.requires.width_value a.item c.requires.item_lt_g c.loop-i.i a.to _ c.loop-i-test.true c.from-n.ensures c.cell-held.ensures in
    (turning-next c.loop-i.invariant.0 c.loop-i-test.true c.put.ensures, rw c.put.ensures.is (omega (arith, k)))

pub returns : goal.returns
unfolding filled
returns c =
    let none = column-none c.args.g (reading c.loop-i.book) c.args.item c.loop-i.i c.args.to (omega arith) in
    record { wrote = turning-end c.loop-i.invariant.0 (omega arith); count = omega arith }
