-- Questions 4 to 7 by the kind's row, and past them the kind's own.
-- Assumes nothing.
use mathlib.Core.Path.{refl, ◌∙◌, ap}
use Rattle.book.proofs.Goods.{good-laid}
use Rattle.model.specs.Kinds.{kind_of, Kind.end_standing}
use Rattle.judge.specs.Chains.{in_words}
use Rattle.model.proofs.Answers.{err-is}
use Rattle.judge.proofs.Whole.{none-no, refused-fields, ready}
use Rattle.judge.proofs.Meanings.{answered-by}
use Rattle.judge.proofs.meetings.end_standing.Goals as goal

pub standing_row-requires : goal.standing_row-requires
standing_row-requires c = (good-laid c.args.diary.good).ranges

pub returns-in_err-fields : goal.returns-in_err-fields
unfolding kind_of
returns-in_err-fields c =
    err-is _ c.from_residual.ensures.1
    ∙ refused-fields c.args.diary.good c.args.r end_standing (ap kind_of c.requires.kind_value) c.standing_row.ensures refl c.fields.ensures c.in_err-fields.was

pub end_standing-requires : goal.end_standing-requires
unfolding kind_of
end_standing-requires c =
    let h = ready c.args.diary.good c.args.r end_standing (ap kind_of c.requires.kind_value) c.standing_row.ensures refl (none-no c.fields.ensures c.in_ok-fields.was) in
    record {
      last_bound = h.slot;
      a_lt_meetings = h.a;
    }

pub returns : goal.returns
unfolding kind_of in_words
returns c =
    c.end_standing.ensures
    ∙ answered-by c.args.diary.good c.args.diary.site.sited c.args.r end_standing (ap kind_of c.requires.kind_value) c.standing_row.ensures refl (none-no c.fields.ensures c.in_ok-fields.was)
