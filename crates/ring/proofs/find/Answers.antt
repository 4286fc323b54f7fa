-- By its number, unless it is 0.
-- Assumes nothing.
use mathlib.Core.Path.{◌∙◌}
use Rattle.ring.proofs.Entries.{kept-at}
use Rattle.ring.proofs.find.Goals as goal

pub returns : goal.returns
returns c = let a = c.args in
    c.numbered.ensures ∙ (kept-at a.tail.now a.order c.if-order-eq0.false)
