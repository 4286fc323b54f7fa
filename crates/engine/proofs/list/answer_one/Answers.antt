-- A list of one request is one step, and its three words tell the answer.
-- Assumes nothing.
use mathlib.Core.Path.{◌∙◌, ap}
use Rattle.model.specs.Answers.{Answer}
use Rattle.book.specs.Good.{answered}
use Rattle.engine.proofs.Told.{one_told}
use Rattle.engine.proofs.list.answer_one.Goals as goal

pub returns : goal.returns
returns c =
    ap (λ (a : Answer). answered a c.answer_all.new.book) c.into.ensures ∙ one_told c.requires c.args.order c.args.r c.answer_all.ensures
