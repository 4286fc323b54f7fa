-- `stream::nothing`: no byte, and so no byte 10.
-- Assumes nothing.
use borrow.Author.Rules.{rules}
use Rattle.lines.proofs.Whole.{free-none}
use Rattle.lines.proofs.stream.nothing.Goals as goal

pub returns : goal.returns
returns c = record { long = search rules; few = search rules; free = free-none; same = search rules }
