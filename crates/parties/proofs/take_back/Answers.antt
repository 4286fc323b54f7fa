-- `take_back`: each turn takes the last guest back.
-- Assumes nothing.
use Rattle.parties.proofs.Joining.{after, one-less, none-left}
use Rattle.parties.proofs.take_back.Goals as goal

pub loop-g-preserved : goal.loop-g-preserved
loop-g-preserved c =
    let e = rw c.request_for-r.ensures at c.erase_attend.ensures in
    record {
      good = (after c.loop-g.invariant.good _ e).good;
      left = λ a good so. one-less _ _ _ (rw c.in-Some.ensures.steps at c.loop-g.invariant.left a good so) e;
    }

pub returns : goal.returns
returns c = λ a good so. none-left _ c.in-None.ensures.steps.0 good (c.loop-g.invariant.left a good so)
