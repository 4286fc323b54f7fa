-- `caviar_charge`: the charge's own, with the answer in words.
-- Assumes nothing.
use mathlib.Core.Path.{◌∙◌, ap}
use Rattle.model.specs.Charge.{charged_words}
use Rattle.capi.proofs.caviar_charge.Goals as goal

pub returns : goal.returns
returns c = c.into.ensures ∙ ap charged_words c.charge.ensures
