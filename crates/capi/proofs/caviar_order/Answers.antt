-- `caviar_order`: the order's own, with its words and the answer's.
-- Assumes nothing.
use mathlib.Core.Path.{◌∙◌, ap}
use Rattle.model.specs.Machine.{reply_words}
use Rattle.ring.proofs.Telling.{told-list}
use Rattle.capi.proofs.caviar_order.Goals as goal

pub returns : goal.returns
returns c =
    let e = c.order.ensures.call in
    record { answer = told-list _ c.into.ensures ∙ ap (λ x. reply_words x.reply) e; book = ap (λ x. x.book) e }
