-- `runs::clear_halves`: the blocks before n and those before n + half are cleared and counted, and whole blocks are left.
-- Assumes nothing.
use Prim.Native.Nat.{◌+◌}
use mathlib.Core.Path.{refl, ◌∙◌}
use native.Mathlib.Omega.{arith}
use Rattle.book.proofs.Sweeps.{cleared-few}
use Rattle.book.proofs.Halves.{halves-none, halves-low, halves-high, halves-whole, halves-few, block-left, blocks-behind}
use Rattle.book.proofs.runs.clear_halves.Goals as goal

pub loop-n-init : goal.loop-n-init
loop-n-init c =
    let a = c.args in
    (refl, omega arith, omega arith, omega (arith, c.requires.0), halves-none a.w a.start (a.start + a.half) a.book.now)

pub overflow_add-cleared : goal.overflow_add-cleared
overflow_add-cleared c =
    omega (arith, c.requires.1, c.requires.2, c.loop-n.invariant.2, halves-few c.loop-n.invariant.4, cleared-few c.clear_block-cleared.ensures)

pub overflow_add-cleared-in-loop-n : goal.overflow_add-cleared-in-loop-n
overflow_add-cleared-in-loop-n c =
    omega (
      arith,
      c.requires.1,
      c.requires.2,
      c.loop-n.invariant.2,
      halves-few c.loop-n.invariant.4,
      cleared-few c.clear_block-cleared.ensures,
      cleared-few c.clear_block-cleared-in-loop-n.ensures,
    )

pub loop-n-preserved : goal.loop-n-preserved
loop-n-preserved c =
    let t = c.loop-n-test.true in
    let a = c.args in
    let room = block-left c.loop-n.n (a.start + a.half) t c.loop-n.invariant.3 in (
      c.clear_block-cleared-in-loop-n.auto.book ∙ c.clear_block-cleared.auto.book ∙ c.loop-n.invariant.0,
      omega (arith, c.loop-n.invariant.1),
      room,
      blocks-behind c.loop-n.n (a.start + a.half) t c.loop-n.invariant.3,
      halves-high (omega (arith, c.loop-n.invariant.1)) (omega arith) (omega arith)
          (halves-low c.loop-n.invariant.1 (omega arith) room c.loop-n.invariant.4 c.clear_block-cleared.ensures) c.clear_block-cleared-in-loop-n.ensures,
    )

pub returns : goal.returns
returns c =
    let i = c.loop-n.invariant in
    let e = c.loop-n-test.false in
    halves-whole (omega arith) (omega arith) (omega (arith, e, i.2)) (omega (arith, e, i.2)) i.4
