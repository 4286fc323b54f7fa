-- `sets::end_standing`: the bits, and then the rows.
-- Assumes nothing.
use Rattle.book.proofs.Turns.{wrote_then}
use Rattle.apply.proofs.sets.end_standing.Goals as goal

pub returns : goal.returns
returns c =
    wrote_then c.turn.ensures c.sweep_run.ensures.wrote
