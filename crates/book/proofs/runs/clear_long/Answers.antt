-- `runs::clear_long`: two halves of whole blocks, and the rest.
-- Assumes nothing.
use native.Mathlib.Omega.{arith}
use Rattle.book.proofs.Sweeps.{cleared-then, cleared-few}
use Rattle.book.proofs.runs.clear_long.Goals as goal

pub overflow_add-result : goal.overflow_add-result
overflow_add-result c =
    omega (arith, c.requires.0, c.requires.1, c.requires.2, cleared-few c.clear_halves-cleared.ensures, cleared-few c.clear_run.ensures)

pub returns : goal.returns
returns c =
    cleared-then (omega arith) (omega (arith, c.requires.0)) c.clear_halves-cleared.ensures c.clear_run.ensures
