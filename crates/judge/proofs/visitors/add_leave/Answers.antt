-- Questions 4 to 7 by the kind's row, and past them the kind's own.
-- Assumes nothing.
use mathlib.Core.Path.{refl, ◌∙◌, ap}
use Rattle.model.specs.Kinds.{kind_of, Kind.add_leave}
use Rattle.judge.specs.Chains.{in_words}
use Rattle.model.proofs.Answers.{err-is}
use Rattle.judge.proofs.Whole.{none-no, refused-fields}
use Rattle.judge.proofs.Meanings.{answered-by}
use Rattle.judge.proofs.visitors.add_leave.Goals as goal

pub returns-in_err-fields : goal.returns-in_err-fields
unfolding kind_of
returns-in_err-fields c =
    err-is _ c.from_residual.ensures.1
    ∙ refused-fields c.args.diary.good c.args.r add_leave (ap kind_of c.requires.kind_value) c.visitor_row.ensures refl c.fields.ensures c.in_err-fields.was

pub returns : goal.returns
unfolding kind_of in_words
returns c =
    answered-by c.args.diary.good c.args.diary.site.sited c.args.r add_leave (ap kind_of c.requires.kind_value) c.visitor_row.ensures refl (none-no c.fields.ensures c.in_ok-fields.was)
