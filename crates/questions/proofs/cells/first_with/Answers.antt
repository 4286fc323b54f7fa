-- What the search finds.
-- Assumes nothing.
use Rattle.std.proofs.Common.{rules}
use Rattle.questions.specs.Asked.{first_with}
use Rattle.questions.proofs.cells.first_with.Goals as goal

pub returns : goal.returns
unfolding first_with
returns g c = c.lowest.ensures _ (λ i b l h p. search rules)
