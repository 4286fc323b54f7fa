-- What the search finds.
-- Assumes nothing.
use Rattle.std.proofs.Common.{rules}
use Rattle.questions.proofs.slots.first_off_leave.Goals as goal

pub returns : goal.returns
returns g c = rw (← c.number.ensures, ← c.number-2.ensures) (c.lowest.ensures _ (λ i b l h p. search rules))
