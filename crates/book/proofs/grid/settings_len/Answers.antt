-- The limits, and a capacity for each dining room.
-- Assumes nothing.
use mathlib.Core.Path.{sym}
use Rattle.model.proofs.Places.{settings-length}
use Rattle.book.proofs.grid.settings_len.Goals as goal

pub returns : goal.returns
returns c = sym (settings-length c.args.s)
