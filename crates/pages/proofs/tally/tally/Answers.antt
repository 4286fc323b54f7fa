-- The cells before v are counted.
-- Assumes nothing.
use mathlib.Core.Path.{refl}
use native.Mathlib.Omega.{arith}
use lib.ListN.{get_or-replicate}
use Rattle.book.proofs.Goods.{good-laid}
use Rattle.pages.proofs.Shows.{tallied-none, tallied-more, tallied-few, tally-all, cell-few}
use Rattle.pages.proofs.tally.tally.Goals as goal

pub loop-v-init : goal.loop-v-init
loop-v-init c =
    (omega arith, tallied-none _ _ c.args.session.0 refl (λ w h. get_or-replicate 129 w 0 0 (omega (arith, h))))

pub bounds-table-w : goal.bounds-table-w
bounds-table-w c =
    let e = rw (c.attend-attend.ensures.grid, c.attend-attend.ensures.words, c.args.diary.site.sited) at c.cell-w.ensures in
    omega (arith, c.loop-v.invariant.1.long, cell-few c.args.diary.good c.args.session.0 c.requires c.loop-v.v (omega arith) e)

pub overflow_add-table : goal.overflow_add-table
overflow_add-table c =
    let e = rw (c.attend-attend.ensures.grid, c.attend-attend.ensures.words, c.args.diary.site.sited) at c.cell-w.ensures in
    let few = cell-few c.args.diary.good c.args.session.0 c.requires c.loop-v.v (omega arith) e in
    omega (arith, tallied-few _ _ c.args.session.0 few c.loop-v.invariant.1, (good-laid c.args.diary.good).ranges.visitors)

pub bounds-table-w-in-loop-v : goal.bounds-table-w-in-loop-v
bounds-table-w-in-loop-v c =
    let e = rw (c.attend-attend.ensures.grid, c.attend-attend.ensures.words, c.args.diary.site.sited) at c.cell-w.ensures in
    omega (arith, c.loop-v.invariant.1.long, cell-few c.args.diary.good c.args.session.0 c.requires c.loop-v.v (omega arith) e)

pub loop-v-preserved : goal.loop-v-preserved
loop-v-preserved c =
    let e = rw (c.attend-attend.ensures.grid, c.attend-attend.ensures.words, c.args.diary.site.sited) at c.cell-w.ensures in
    let few = cell-few c.args.diary.good c.args.session.0 c.requires c.loop-v.v (omega arith) e in
    (omega arith, tallied-more _ _ c.args.session.0 c.cell-w.ensures few c.loop-v.invariant.1)

pub returns : goal.returns
returns c =
    tally-all c.args.diary.good c.args.session.0 c.requires {n = c.loop-v.v} (omega arith)
    (rw (c.attend-attend.ensures.grid, c.attend-attend.ensures.words, c.args.diary.site.sited) at c.loop-v.invariant.1)
