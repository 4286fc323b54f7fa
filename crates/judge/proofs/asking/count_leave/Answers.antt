-- Questions 4 to 7 by the kind's row, and past them what the kind asks for.
-- Assumes nothing.
use mathlib.Core.Path.{refl, ◌∙◌, ap}
use native.Mathlib.Omega.{arith}
use Rattle.model.specs.Answers.{done_with}
use Rattle.model.specs.Kinds.{kind_of, Kind.count_leave}
use Rattle.judge.specs.Chains.{in_words}
use Rattle.model.proofs.Answers.{err-is}
use Rattle.judge.proofs.Whole.{none-no, refused-fields, ready}
use Rattle.judge.proofs.Meanings.{answered-by}
use Rattle.judge.proofs.asking.count_leave.Goals as goal

pub returns-in_err-fields : goal.returns-in_err-fields
unfolding kind_of
returns-in_err-fields c =
    err-is _ c.from_residual.ensures.1
    ∙ refused-fields c.args.diary.good c.args.r count_leave (ap kind_of c.requires.kind_value) c.count_leave_row.ensures refl c.fields.ensures c.in_err-fields.was

pub members-requires : goal.members-requires
unfolding kind_of
members-requires c =
    let h = ready c.args.diary.good c.args.r count_leave (ap kind_of c.requires.kind_value) c.count_leave_row.ensures refl (none-no c.fields.ensures c.in_ok-fields.was) in
    record {
      date_lt_dates = omega (arith, h.order, h.slot);
    }

pub returns : goal.returns
unfolding kind_of in_words
returns c =
    ap done_with c.members.ensures
    ∙ answered-by c.args.diary.good c.args.diary.site.sited c.args.r count_leave (ap kind_of c.requires.kind_value) c.count_leave_row.ensures refl (none-no c.fields.ensures c.in_ok-fields.was)
