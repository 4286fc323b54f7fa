-- Questions 4 to 7 by the kind's row, and past them the kind's own.
-- Assumes nothing.
use mathlib.Core.Path.{refl, ◌∙◌, ap}
use Rattle.book.proofs.Goods.{good-laid}
use Rattle.model.specs.Kinds.{kind_of, Kind.erase_conf_and_lunch}
use Rattle.judge.specs.Chains.{in_words}
use Rattle.model.proofs.Answers.{err-is}
use Rattle.judge.proofs.Whole.{none-no, refused-fields, ready}
use Rattle.judge.proofs.Meanings.{answered-by}
use Rattle.judge.proofs.meetings.erase_conf_and_lunch.Goals as goal

pub meeting_row-requires : goal.meeting_row-requires
meeting_row-requires c = (good-laid c.args.diary.good).ranges

pub returns-in_err-fields : goal.returns-in_err-fields
unfolding kind_of
returns-in_err-fields c =
    err-is _ c.from_residual.ensures.1
    ∙ refused-fields c.args.diary.good c.args.r erase_conf_and_lunch (ap kind_of c.requires.kind_value) c.meeting_row.ensures refl c.fields.ensures c.in_err-fields.was

pub erase_all-requires : goal.erase_all-requires
unfolding kind_of
erase_all-requires c =
    let h = ready c.args.diary.good c.args.r erase_conf_and_lunch (ap kind_of c.requires.kind_value) c.meeting_row.ensures refl (none-no c.fields.ensures c.in_ok-fields.was) in
    record {
      last_bound = h.slot;
      b_lt_meetings = h.b;
    }

pub returns : goal.returns
unfolding kind_of in_words
returns c =
    c.erase_all.ensures
    ∙ answered-by c.args.diary.good c.args.diary.site.sited c.args.r erase_conf_and_lunch (ap kind_of c.requires.kind_value) c.meeting_row.ensures refl (none-no c.fields.ensures c.in_ok-fields.was)
