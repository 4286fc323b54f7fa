-- `caviar_lay`: laying's own, with the answer in words.
-- Assumes nothing.
use mathlib.Core.Path.{◌∙◌, ap}
use Rattle.model.specs.Machine.{reply_words}
use Rattle.ring.proofs.Telling.{told-list}
use Rattle.capi.proofs.caviar_lay.Goals as goal

pub returns : goal.returns
returns c =
    record { answer = told-list _ c.into.ensures ∙ ap (λ x. reply_words x.reply) c.lay.ensures; book = ap (λ x. x.book) c.lay.ensures }
