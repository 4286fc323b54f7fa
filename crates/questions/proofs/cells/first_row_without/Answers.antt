-- What the search finds.
-- Assumes nothing.
use Rattle.std.proofs.Common.{rules}
use Rattle.questions.specs.Asked.{first_row_without}
use Rattle.questions.proofs.cells.first_row_without.Goals as goal

pub returns : goal.returns
unfolding first_row_without
returns c = c.first_slot.ensures _ (λ i b l h p. search rules)
