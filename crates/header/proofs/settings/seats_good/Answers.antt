-- Each capacity beside its number.
-- Assumes nothing.
use mathlib.Core.Path.{◌≡◌}
use native.Mathlib.Omega.{arith}
use mathlib.Core.Bool.{true, false}
use Rattle.std.proofs.Common.{rules}
use Rattle.std.proofs.lemmas.Iterator.{cases_from_all, YieldsList-from_zip, YieldsList-from_range, YieldsList-from_slice}
use Rattle.header.proofs.Heads.{seat_said, seats-said}
use Rattle.header.proofs.settings.seats_good.Goals as goal

pub returns : goal.returns
returns c =
    seats-said c.args.s c.requires c.all.result
    (cases_from_all c.all.new.self _ _ (λ y. seat_said c.args.s y ≡ true) (λ y. seat_said c.args.s y ≡ false) c.all.ensures.ran
    (YieldsList-from_zip (YieldsList-from_range 0 16 16 (cc) (omega arith)) (YieldsList-from_slice c.args.s.capacities (cc)))
    (λ x q k. search rules) (λ x q k. search rules))
