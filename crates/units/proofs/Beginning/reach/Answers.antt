-- The first probe on date d or later is an end, and so is the number of slots.
-- Assumes nothing.
-- no slot is behind the last
use mathlib.Core.Path.{sym, ◌∙◌}
use native.Mathlib.Omega.{arith}
use Rattle.units.proofs.Cuts.{turn-high}
use Rattle.units.proofs.Beginning.reach.Goals as goal

pub returns-then-is_on_or_after : goal.returns-then-is_on_or_after
returns-then-is_on_or_after c =
    let a = c.args in
    record {
      order = c.loop-hi.invariant.0;
      most = omega (arith, c.loop-hi-test.true);
      after = λ i h k. turn-high a.self.each a.self.late a.self.d c.loop-hi.hi (sym c.is_on_or_after.ensures ∙ c.if-is_on_or_after.true) i h;
    }
