-- The cut stays between the two ends, which meet.
-- Assumes nothing.
use Prim.Native.Nat.{◌+◌, ◌-◌, ◌/◌}
use mathlib.Core.Path.{sym, ◌∙◌}
use native.Mathlib.Omega.{arith}
use Rattle.units.proofs.Cuts.{turn_low, turn-high}
use Rattle.units.proofs.Beginning.bisect.Goals as goal

pub loop-lo-preserved-then-is_on_or_after : goal.loop-lo-preserved-then-is_on_or_after
loop-lo-preserved-then-is_on_or_after c =
    let a = c.args in
    record {
      order = omega arith;
      most = omega (arith, c.loop-lo.invariant.most);
      before = c.loop-lo.invariant.before;
      after = λ i h k. turn-high a.self.each a.self.late a.self.d (c.loop-lo.lo + (c.loop-lo.hi - c.loop-lo.lo) / 2) (sym c.is_on_or_after.ensures ∙ c.if-is_on_or_after.true) i h;
    }

pub loop-lo-preserved : goal.loop-lo-preserved
loop-lo-preserved c =
    let a = c.args in
    record {
      order = omega arith;
      most = c.loop-lo.invariant.most;
      before = turn_low a.self.each a.self.late a.self.d (c.loop-lo.lo + (c.loop-lo.hi - c.loop-lo.lo) / 2) (sym c.is_on_or_after.ensures ∙ c.if-is_on_or_after.false);
      after = c.loop-lo.invariant.after;
    }
