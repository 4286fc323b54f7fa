-- What the search finds.
-- Assumes nothing.
use Rattle.std.proofs.Common.{rules}
use Rattle.queries.proofs.entries.first_member.Goals as goal

pub returns : goal.returns
returns c = c.first_slot.ensures _ (λ i b l h p. search rules)
