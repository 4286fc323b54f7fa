-- What the search finds.
-- Assumes nothing.
use Rattle.std.proofs.Common.{rules}
use Rattle.questions.specs.Asked.{holds_in}
use Rattle.questions.proofs.slots.first_over.Goals as goal

pub returns : goal.returns
unfolding holds_in
returns c = c.first_slot.ensures _ (λ i b l h p. search rules)
