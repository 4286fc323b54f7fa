-- Questions 4 to 7 by the kind's row, and past them the kind's own.
-- Assumes nothing.
use mathlib.Core.Path.{refl, ◌∙◌, ap}
use Rattle.model.specs.Kinds.{kind_of, Kind.end_leave}
use Rattle.judge.specs.Chains.{in_words}
use Rattle.model.proofs.Answers.{err-is}
use Rattle.judge.proofs.Whole.{none-no, refused-fields, ready}
use Rattle.judge.proofs.Meanings.{answered-by}
use Rattle.judge.proofs.Together.{stops, goes}
use Rattle.judge.proofs.visitors.end_leave.Goals as goal

pub returns-in_err-fields : goal.returns-in_err-fields
unfolding kind_of
returns-in_err-fields c =
    err-is _ c.from_residual.ensures.1
    ∙ refused-fields c.args.diary.good c.args.r end_leave (ap kind_of c.requires.kind_value) c.visitor_row.ensures refl c.fields.ensures c.in_err-fields.was

pub first_booked-booked-requires : goal.first_booked-booked-requires
unfolding kind_of
first_booked-booked-requires c =
    let h = ready c.args.diary.good c.args.r end_leave (ap kind_of c.requires.kind_value) c.visitor_row.ensures refl (none-no c.fields.ensures c.in_ok-fields.was) in
    record {
      last_lt_dates = h.slot;
      visitor_lt_visitors = h.b;
    }

pub returns-in_err-ask : goal.returns-in_err-ask
unfolding kind_of in_words
returns-in_err-ask c =
    err-is _ c.from_residual-in_err-ask.ensures.1
    ∙ (stops 18 _ c.ask.ensures c.first_booked-booked.ensures c.in_err-ask.was)
    ∙ answered-by c.args.diary.good c.args.diary.site.sited c.args.r end_leave (ap kind_of c.requires.kind_value) c.visitor_row.ensures refl (none-no c.fields.ensures c.in_ok-fields.was)

pub returns : goal.returns
unfolding kind_of in_words
returns c =
    (goes 18 c.ask.ensures c.first_booked-booked.ensures c.in_ok-ask.was
    refl)
    ∙ answered-by c.args.diary.good c.args.diary.site.sited c.args.r end_leave (ap kind_of c.requires.kind_value) c.visitor_row.ensures refl (none-no c.fields.ensures c.in_ok-fields.was)
