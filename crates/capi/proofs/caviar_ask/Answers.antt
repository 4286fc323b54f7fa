-- `caviar_ask`: the asking's own, with its words and the answer's.
-- Assumes nothing.
use mathlib.Core.Path.{◌∙◌, ap}
use Rattle.model.specs.Machine.{reply_words}
use Rattle.capi.proofs.caviar_ask.Goals as goal

pub returns : goal.returns
returns c =
    let e = c.ask.ensures in
    record { answer = c.into.ensures ∙ ap (λ x. reply_words x.reply) e; book = ap (λ x. x.book) e }
