-- `request`: an order without a number, which no ring keeps.
-- Assumes nothing.
use mathlib.Core.Path.{refl}
use Rattle.engine.proofs.request.Goals as goal

pub returns : goal.returns
returns c = record {
  call = c.order.ensures.call;
  removal = c.order.ensures.removal refl;
}
