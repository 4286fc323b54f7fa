-- `book_step`: the answer that the words tell.
-- Assumes nothing.
use mathlib.Core.Path.{◌∙◌, ap}
use Rattle.model.specs.Answers.{Answer}
use Rattle.book.specs.Good.{answered}
use Rattle.step.proofs.Kept.{answer-told}
use Rattle.step.proofs.book_step.Goals as goal

pub returns : goal.returns
returns c =
    ap (λ (a : Answer). answered a c.told_step.new.book) c.into.ensures ∙ answer-told c.requires.good_book c.args.order c.args.r c.told_step.ensures
