-- Every slot before the one returned is before date d, by the last of them; before slot 0 there is none.
-- Assumes nothing.
use Prim.Native.Nat.{◌-◌, ◌<◌}
use mathlib.Core.Path.{sym, ◌∙◌}
use native.Mathlib.Omega.{arith}
use Rattle.units.proofs.Cuts.{turn_low}
use Rattle.units.proofs.Beginning.retreat.Goals as goal

pub returns-then-not-is_on_or_after : goal.returns-then-not-is_on_or_after
returns-then-not-is_on_or_after c =
    let a = c.args in
    let some : 0 < c.loop-lo.lo = c.loop-lo-test.true in
    record {
      order = c.loop-lo.invariant.0;
      before = λ i h. turn_low a.self.each a.self.late a.self.d (c.loop-lo.lo - 1) (sym c.is_on_or_after.ensures ∙ c.if-not-is_on_or_after.true) i
          (omega (arith, h, some));
    }
