-- The cut of the numbers is that of the unit.
-- Assumes nothing.
use mathlib.Core.Path.{sym}
use Rattle.units.proofs.Cuts.{unit-cut}
use Rattle.units.proofs.first_on.Goals as goal

pub returns : goal.returns
returns g c =
    let S = c.args.s in
    rw (c.numbered.ensures) (unit-cut S g.U.Slot.unit (rw (sym c.each-each.ensures, sym c.late.ensures) c.first.ensures))
