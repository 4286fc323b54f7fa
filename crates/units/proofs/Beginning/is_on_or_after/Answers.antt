-- The question, put by a product.
-- Assumes nothing.
use mathlib.Core.Path.{sym}
use Rattle.units.proofs.Cuts.{asked-by-product}
use Rattle.units.proofs.Beginning.is_on_or_after.Goals as goal

pub returns : goal.returns
returns c =
    let a = c.args in
    rw c.behind.ensures (sym (asked-by-product a.self.each a.self.late a.i a.self.d c.args.self.some))
