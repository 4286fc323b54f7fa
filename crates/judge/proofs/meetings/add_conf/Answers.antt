-- Questions 4 to 7 by the kind's row, and past them the kind's own.
-- Assumes nothing.
use mathlib.Core.Path.{refl, ◌∙◌, ap}
use Rattle.book.proofs.Goods.{good-laid}
use Rattle.model.specs.Kinds.{kind_of, Kind.add_conf}
use Rattle.judge.specs.Chains.{in_words}
use Rattle.model.proofs.Answers.{err-is}
use Rattle.judge.proofs.Whole.{none-no, refused-fields, ready}
use Rattle.judge.proofs.Meanings.{answered-by}
use Rattle.judge.proofs.meetings.add_conf.Goals as goal

pub add_conf_row-requires : goal.add_conf_row-requires
add_conf_row-requires c = (good-laid c.args.diary.good).ranges

pub returns-in_err-fields : goal.returns-in_err-fields
unfolding kind_of
returns-in_err-fields c =
    err-is _ c.from_residual.ensures.1
    ∙ refused-fields c.args.diary.good c.args.r add_conf (ap kind_of c.requires.kind_value) c.add_conf_row.ensures refl c.fields.ensures c.in_err-fields.was

pub add_conf-requires : goal.add_conf-requires
unfolding kind_of
add_conf-requires c =
    let h = ready c.args.diary.good c.args.r add_conf (ap kind_of c.requires.kind_value) c.add_conf_row.ensures refl (none-no c.fields.ensures c.in_ok-fields.was) in
    record {
      last_bound = h.slot;
      a_lt_rooms = h.a;
      b_lt_meetings = h.b;
    }

pub returns : goal.returns
unfolding kind_of in_words
returns c =
    c.add_conf.ensures
    ∙ answered-by c.args.diary.good c.args.diary.site.sited c.args.r add_conf (ap kind_of c.requires.kind_value) c.add_conf_row.ensures refl (none-no c.fields.ensures c.in_ok-fields.was)
