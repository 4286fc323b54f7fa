-- `caviar_check`: checking's own, with the answer in words.
-- Assumes nothing.
use mathlib.Core.Path.{◌∙◌, ap}
use Rattle.model.specs.Messages.{answer_words}
use Rattle.ring.proofs.Telling.{told-list}
use Rattle.capi.proofs.caviar_check.Goals as goal

pub returns : goal.returns
returns c = told-list _ c.into.ensures ∙ ap answer_words c.check.ensures
