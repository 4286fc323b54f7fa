-- What the search finds.
-- Assumes nothing.
use Rattle.std.proofs.Common.{rules}
use Rattle.questions.specs.Asked.{first_not_member}
use Rattle.questions.proofs.cells.first_not_member.Goals as goal

pub returns : goal.returns
unfolding first_not_member
returns g c = c.lowest.ensures _ (λ i b l h p. search rules)
