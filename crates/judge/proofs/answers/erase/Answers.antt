-- Question 15.
-- Assumes nothing.
use mathlib.Core.Path.{refl, ◌∙◌}
use Rattle.judge.specs.Chains.{erase_pair}
use Rattle.judge.proofs.Together.{stops, goes}
use Rattle.model.proofs.Answers.{err-is}
use Rattle.judge.proofs.answers.erase.Goals as goal

pub returns-in_err-ask : goal.returns-in_err-ask
unfolding erase_pair
returns-in_err-ask c =
    err-is _ c.from_residual.ensures.1
    ∙ (stops 15 _ c.ask.ensures c.first_without.ensures c.in_err-ask.was)

pub returns : goal.returns
unfolding erase_pair
returns c =
    (goes 15 c.ask.ensures c.first_without.ensures c.in_ok-ask.was
    refl)
