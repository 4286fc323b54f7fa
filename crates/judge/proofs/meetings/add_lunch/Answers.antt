-- Questions 4 to 7 by the kind's row, and past them the kind's own.
-- Assumes nothing.
use mathlib.Core.Path.{refl, ◌∙◌, ap}
use Rattle.model.specs.Kinds.{kind_of, Kind.add_lunch}
use Rattle.judge.specs.Chains.{in_words}
use Rattle.model.proofs.Answers.{err-is}
use Rattle.judge.proofs.Whole.{none-no, refused-fields, ready}
use Rattle.judge.proofs.Meanings.{answered-by}
use Rattle.judge.proofs.meetings.add_lunch.Goals as goal

pub returns-in_err-fields : goal.returns-in_err-fields
unfolding kind_of
returns-in_err-fields c =
    err-is _ c.from_residual.ensures.1
    ∙ refused-fields c.args.diary.good c.args.r add_lunch (ap kind_of c.requires.kind_value) c.add_lunch_row.ensures refl c.fields.ensures c.in_err-fields.was

pub lunch_fits-requires : goal.lunch_fits-requires
unfolding kind_of
lunch_fits-requires c =
    let h = ready c.args.diary.good c.args.r add_lunch (ap kind_of c.requires.kind_value) c.add_lunch_row.ensures refl (none-no c.fields.ensures c.in_ok-fields.was) in
    record {
      last_lt_dates = h.slot;
      a_lt_dining = h.a;
      b_lt_meetings = h.b;
      first_le_last = h.order;
    }

pub returns : goal.returns
unfolding kind_of in_words
returns c =
    c.lunch_fits.ensures
    ∙ answered-by c.args.diary.good c.args.diary.site.sited c.args.r add_lunch (ap kind_of c.requires.kind_value) c.add_lunch_row.ensures refl (none-no c.fields.ensures c.in_ok-fields.was)
