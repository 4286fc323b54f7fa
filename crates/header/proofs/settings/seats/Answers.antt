-- The capacities passed are in place.
-- Assumes nothing.
use native.Mathlib.Omega.{arith}
use Rattle.header.specs.Heads.{seat_of}
use Rattle.header.proofs.Heads.{seats-by}
use Rattle.header.proofs.settings.seats.Goals as goal

pub returns : goal.returns
returns c =
    let a = c.args in
    seats-by (seat_of a.words.now a.dining) c.loop-g.all c.loop-g.invariant.0 (λ k h. c.loop-g.invariant.1 k (omega arith))
