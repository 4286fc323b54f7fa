-- `is_full`: a change, and the greatest count.
-- Assumes nothing.
use mathlib.Core.Path.{ap}
use mathlib.Core.Bool.{Bool, ◌&&◌}
use lib.Dec.{eqb}
use Rattle.step.proofs.is_full.Goals as goal

pub returns : goal.returns
returns c = ap (λ (t : Bool). t && eqb c.args.changes 4294967295) c.is_change.ensures
