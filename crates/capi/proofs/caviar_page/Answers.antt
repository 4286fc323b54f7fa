-- `caviar_page`: the page's own, with the answer in words.
-- Assumes nothing.
use mathlib.Core.Path.{◌∙◌, ap}
use Rattle.model.specs.Messages.{answer_words}
use Rattle.ring.proofs.Telling.{told-list}
use Rattle.capi.proofs.caviar_page.Goals as goal

pub returns : goal.returns
returns c =
    record { answer = told-list _ c.into.ensures ∙ ap (λ x. answer_words x.answer) c.page.ensures; page = ap (λ x. x.page) c.page.ensures }
