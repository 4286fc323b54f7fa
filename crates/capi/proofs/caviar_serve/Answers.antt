-- `caviar_serve`: serving's own, with the answer in words.
-- Assumes nothing.
use mathlib.Core.Path.{◌∙◌, ap}
use Rattle.model.specs.Messages.{answer_words}
use Rattle.ring.proofs.Telling.{told-list}
use Rattle.capi.proofs.caviar_serve.Goals as goal

pub returns : goal.returns
returns c =
    record {
      answer = told-list _ c.into.ensures ∙ ap (λ x. answer_words x.answer) c.serve.ensures;
      book = ap (λ x. x.book) c.serve.ensures;
      answers = ap (λ x. x.answers) c.serve.ensures;
    }
