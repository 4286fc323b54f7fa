-- What the search finds.
-- Assumes nothing.
use Rattle.std.proofs.Common.{rules}
use Rattle.questions.specs.Asked.{first_without}
use Rattle.questions.proofs.cells.first_without.Goals as goal

pub returns : goal.returns
unfolding first_without
returns g c = c.lowest.ensures _ (λ i b l h p. search rules)
