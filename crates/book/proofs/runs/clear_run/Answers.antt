-- `runs::clear_run`: the blocks before n are cleared and counted.
-- Assumes nothing.
use mathlib.Core.Path.{refl, ◌∙◌}
use native.Mathlib.Omega.{arith}
use Rattle.book.proofs.Sweeps.{cleared-none, cleared-then, cleared-few}
use Rattle.book.proofs.runs.clear_run.Goals as goal

pub loop-n-init : goal.loop-n-init
loop-n-init c = (refl, omega arith, c.requires.0, cleared-none c.args.w c.args.run.start c.args.book.now)

pub overflow_add-cleared : goal.overflow_add-cleared
overflow_add-cleared c =
    omega (arith, c.requires.1, c.requires.2, c.loop-n.invariant.2, cleared-few c.loop-n.invariant.3, cleared-few c.clear_block-cleared.ensures)

pub loop-n-preserved : goal.loop-n-preserved
loop-n-preserved c =
    let a = c.args in
    let t = c.loop-n-test.true in (
      c.clear_block-cleared.auto.book ∙ c.loop-n.invariant.0,
      omega (arith, c.loop-n.invariant.1),
      omega (arith, t, c.loop-n.invariant.2),
      cleared-then c.loop-n.invariant.1 (omega arith) c.loop-n.invariant.3 c.clear_block-cleared.ensures,
    )

pub overflow_add-result : goal.overflow_add-result
overflow_add-result c =
    omega (arith, c.requires.1, c.requires.2, c.loop-n.invariant.2, cleared-few c.loop-n.invariant.3, cleared-few c.clear_block.ensures)

pub returns : goal.returns
returns c =
    cleared-then c.loop-n.invariant.1 c.loop-n.invariant.2 c.loop-n.invariant.3 c.clear_block.ensures
