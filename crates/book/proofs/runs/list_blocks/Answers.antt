-- `runs::list_blocks`: the blocks before n that hold w are listed and counted.
-- Assumes nothing.
use Prim.Native.Nat.{◌+◌, ◌≤◌}
use mathlib.Core.Path.{refl, ◌∙◌}
use native.Mathlib.Omega.{arith}
use lib.ListN.{length, length-set}
use Rattle.book.proofs.Sweeps.{cleared-few}
use Rattle.book.proofs.Listings.{holds-none, holds-next, listed-is, few-blocks, block-few}
use Rattle.book.proofs.runs.list_blocks.Goals as goal

pub loop-n-init : goal.loop-n-init
loop-n-init c =
    let a = c.args in
    (refl, omega arith, c.requires.start_le_end.0, holds-none a.w a.run.start a.book.now a.places.now)

pub overflow_add-words : goal.overflow_add-words
overflow_add-words c =
    let t = c.loop-n-test.true in
    let here = block-few c.args.w c.loop-n.n c.args.book.now (omega (arith, t, c.loop-n.invariant.2, c.requires.start_le_end.1)) c.part_count-here.ensures in
    omega (arith, cleared-few c.loop-n.invariant.3.cleared, here, c.requires.start_le_end.1, c.requires.start_le_end.2, c.loop-n.invariant.2)

pub loop-n-preserved : goal.loop-n-preserved
loop-n-preserved c =
    let t = c.loop-n-test.true in
    let room : c.loop-n.n + 64 ≤ length c.args.book.now = omega (arith, t, c.loop-n.invariant.2, c.requires.start_le_end.1) in (
      length-set c.loop-n.places c.loop-n.blocks _ ∙ c.loop-n.invariant.0,
      omega (arith, c.loop-n.invariant.1),
      omega (arith, t, c.loop-n.invariant.2),
      holds-next c.loop-n.invariant.1 room (omega (arith, c.loop-n.invariant.0, c.requires.end_bound.1, few-blocks c.loop-n.invariant.3 (omega (arith, c.loop-n.invariant.2, c.requires.end_bound.0)))) c.part_count-here.ensures c.from-blocks.ensures c.loop-n.invariant.3,
    )

pub returns : goal.returns
returns c =
    listed-is (omega (arith, c.loop-n.invariant.0, c.requires.end_bound.1, few-blocks c.loop-n.invariant.3 (omega (arith, c.loop-n.invariant.2, c.requires.end_bound.0)))) c.loop-n.invariant.2 c.loop-n.invariant.3
