-- `runs::clear_short`: the listed blocks, and the rest behind the last whole block.
-- Assumes nothing.
use native.Mathlib.Omega.{arith}
use Rattle.book.proofs.Sweeps.{cleared-then, cleared-few}
use Rattle.book.proofs.Listings.{few-blocks, listed-cleared}
use Rattle.book.proofs.runs.clear_short.Goals as goal

pub overflow_add-result : goal.overflow_add-result
overflow_add-result c =
    omega (
      arith,
      c.requires.start_le_end.1,
      c.requires.start_le_end.2,
      c.list_blocks-found.ensures.stop,
      cleared-few c.list_blocks-found.ensures.holds.cleared,
      cleared-few c.clear_block.ensures,
    )

pub returns : goal.returns
returns c =
    let h = c.list_blocks-found.ensures in
    let few = few-blocks h.holds (omega (arith, h.stop, c.requires.end_bound)) in
    cleared-then (omega (arith, h.holds.few)) h.stop (listed-cleared h (omega (arith, few)) c.clear_listed.ensures) c.clear_block.ensures
