-- `runs::sweep_long`: the rows are one run of words.
-- Assumes nothing.
use Rattle.book.specs.Lent.{reading}
use Rattle.book.proofs.Sweeps.{swept-by}
use Rattle.book.proofs.runs.sweep_long.Goals as goal

pub returns : goal.returns
unfolding reading
returns c = swept-by c.args.g c.args.w c.args.from c.args.to c.rows_run.ensures c.requires.width_value c.requires.lies c.clear_long.ensures
