-- Questions 4 to 7 by the kind's row, and past them what the kind asks for.
-- Assumes nothing.
use mathlib.Core.Path.{refl, ◌∙◌, ap}
use native.Mathlib.Omega.{arith}
use Rattle.book.proofs.Goods.{good-laid}
use Rattle.model.specs.Kinds.{kind_of, Kind.which_meeting}
use Rattle.judge.specs.Chains.{found_or, in_words}
use Rattle.model.proofs.Answers.{err-is}
use Rattle.judge.proofs.Whole.{none-no, refused-fields, ready}
use Rattle.judge.proofs.Meanings.{answered-by}
use Rattle.judge.proofs.Together.{or-refused}
use Rattle.judge.proofs.asking.which_meeting.Goals as goal

pub which_meeting_row-requires : goal.which_meeting_row-requires
which_meeting_row-requires c = (good-laid c.args.diary.good).ranges

pub returns-in_err-fields : goal.returns-in_err-fields
unfolding kind_of
returns-in_err-fields c =
    err-is _ c.from_residual.ensures.1
    ∙ refused-fields c.args.diary.good c.args.r which_meeting (ap kind_of c.requires.kind_value) c.which_meeting_row.ensures refl c.fields.ensures c.in_err-fields.was

pub meeting_of-requires : goal.meeting_of-requires
unfolding kind_of
meeting_of-requires c =
    let h = ready c.args.diary.good c.args.r which_meeting (ap kind_of c.requires.kind_value) c.which_meeting_row.ensures refl (none-no c.fields.ensures c.in_ok-fields.was) in
    record {
      session_bound = omega (arith, h.order, h.slot);
      visitor_lt_visitors = h.b;
    }

pub returns : goal.returns
unfolding kind_of in_words
returns c =
    c.ok_or.ensures.value
    ∙ or-refused 21 c.args.r.first _
    ∙ ap (found_or 21 c.args.r.first) c.meeting_of.ensures
    ∙ answered-by c.args.diary.good c.args.diary.site.sited c.args.r which_meeting (ap kind_of c.requires.kind_value) c.which_meeting_row.ensures refl (none-no c.fields.ensures c.in_ok-fields.was)
