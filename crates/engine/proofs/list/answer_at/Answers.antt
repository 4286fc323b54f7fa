-- `list::answer_at`: one step, and its answer in its place.
-- Assumes nothing.
use Prim.Native.Nat.{ℕ, ◌*◌}
use mathlib.Core.Path.{◌∙◌, ap, ap₂}
use lib.ListN.{drop}
use Rattle.model.specs.declared.Request.{Request}
use Rattle.model.specs.Machine.{ordered, reply_words, perform}
use Rattle.model.specs.Ledger.{ledger_of}
use Rattle.model.specs.Calls.{Called, called}
use Rattle.ring.proofs.Telling.{told-list}
use Rattle.engine.specs.Lists.{spliced}
use Rattle.engine.proofs.Splices.{request-of}
use Rattle.engine.proofs.list.answer_at.Goals as goal

pub returns : goal.returns
returns c =
    let a = c.args in
    let q = c.request_at-r.ensures ∙ request-of c.requires.le_width (drop (a.i * a.width) a.list.now) in
    let e = c.told_step-told.ensures.is ∙ ap₂ (λ (n : ℕ) (r : Request). called (perform (ledger_of a.book.now) (ordered n r))) c.order_at-order.ensures q in
    record {
      book = ap (λ (c : Called). c.book) e;
      answers = c.put_words.ensures
          ∙ ap (spliced a.answers.now (a.i * 3)) (told-list c.told_step-told.ensures.answer c.told_step-told.ensures.told)
          ∙ ap (λ (c : Called). spliced a.answers.now (a.i * 3) (reply_words c.reply)) e;
    }
