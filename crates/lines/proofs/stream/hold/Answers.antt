-- `stream::hold`: the bytes of the piece that find room are behind those held.
-- Assumes nothing.
use mathlib.Core.Path.{refl}
use Rattle.lines.proofs.Keeping.{held_more}
use Rattle.lines.proofs.stream.hold.Goals as goal

pub returns : goal.returns
returns c = held_more c.args.piece.now c.min-n.result c.requires.holds c.requires.free c.min-n.ensures refl c.put.ensures
