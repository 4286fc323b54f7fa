-- The questions of kinds 4 and 6.
-- Assumes nothing.
use mathlib.Core.Path.{refl, ◌∙◌}
use Rattle.judge.specs.Chains.{stay_adds}
use Rattle.judge.proofs.Together.{stops, goes}
use Rattle.model.proofs.Answers.{err-is}
use Rattle.judge.proofs.eager.stay.Goals as goal

pub returns-in_err-ask : goal.returns-in_err-ask
unfolding stay_adds
returns-in_err-ask c = err-is _ c.from_residual.ensures.1 ∙ stops 9 _ c.ask.ensures refl c.in_err-ask.was

pub returns-in_err-ask-2 : goal.returns-in_err-ask-2
unfolding stay_adds
returns-in_err-ask-2 c =
    err-is _ c.from_residual-in_err-ask-2.ensures.1
    ∙ goes 9 c.ask.ensures refl c.in_ok-ask.was
    (stops 11 _ c.ask-2.ensures c.first_with-there.ensures c.in_err-ask-2.was)

pub returns-in_err-ask-3 : goal.returns-in_err-ask-3
unfolding stay_adds
returns-in_err-ask-3 c =
    err-is _ c.from_residual-in_err-ask-3.ensures.1
    ∙ goes 9 c.ask.ensures refl c.in_ok-ask.was
    (goes 11 c.ask-2.ensures c.first_with-there.ensures c.in_ok-ask-2.was
    (stops 12 _ c.ask-3.ensures c.first_without-taken.ensures c.in_err-ask-3.was))

pub returns-in_err-ask-4 : goal.returns-in_err-ask-4
unfolding stay_adds
returns-in_err-ask-4 c =
    err-is _ c.from_residual-in_err-ask-4.ensures.1
    ∙ goes 9 c.ask.ensures refl c.in_ok-ask.was
    (goes 11 c.ask-2.ensures c.first_with-there.ensures c.in_ok-ask-2.was
    (goes 12 c.ask-3.ensures c.first_without-taken.ensures c.in_ok-ask-3.was
    (stops 13 _ c.ask-4.ensures c.first_row_with-elsewhere.ensures c.in_err-ask-4.was)))

pub returns : goal.returns
unfolding stay_adds
returns c =
    goes 9 c.ask.ensures refl c.in_ok-ask.was
    (goes 11 c.ask-2.ensures c.first_with-there.ensures c.in_ok-ask-2.was
    (goes 12 c.ask-3.ensures c.first_without-taken.ensures c.in_ok-ask-3.was
    (goes 13 c.ask-4.ensures c.first_row_with-elsewhere.ensures c.in_ok-ask-4.was
    refl)))
