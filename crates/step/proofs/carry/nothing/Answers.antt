-- A request that only asks leaves the state, and a good diary is the words of the state that it shows.
-- Assumes nothing.
use mathlib.Core.Path.{sym, ◌∙◌, ap}
use Rattle.book.specs.Lent.{reading}
use Rattle.model.specs.Reading.{state_of}
use Rattle.model.specs.Words.{words}
use Rattle.model.proofs.Effect.{query-keeps}
use Rattle.step.proofs.Kept.{good-diary}
use Rattle.step.proofs.carry.nothing.Goals as goal

pub returns : goal.returns
returns c =
    sym (good-diary c.requires.good)
    ∙ ap words (sym (query-keeps (state_of (reading c.args._book.now)) c.args.r c.requires.kind_value))
