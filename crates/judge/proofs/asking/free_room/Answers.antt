-- Questions 4 to 7 by the kind's row, and past them what the kind asks for.
-- Assumes nothing.
use mathlib.Core.Path.{refl, ◌∙◌, ap}
use native.Mathlib.Omega.{arith}
use Rattle.book.proofs.Goods.{good-laid}
use Rattle.model.specs.Kinds.{kind_of, Kind.free_room}
use Rattle.judge.specs.Chains.{found_or, in_words}
use Rattle.model.proofs.Answers.{err-is}
use Rattle.judge.proofs.Whole.{none-no, refused-fields, ready}
use Rattle.judge.proofs.Meanings.{answered-by}
use Rattle.judge.proofs.Together.{or-refused}
use Rattle.judge.proofs.asking.free_room.Goals as goal

pub free_room_row-requires : goal.free_room_row-requires
free_room_row-requires c = (good-laid c.args.diary.good).ranges

pub returns-in_err-fields : goal.returns-in_err-fields
unfolding kind_of
returns-in_err-fields c =
    err-is _ c.from_residual.ensures.1
    ∙ refused-fields c.args.diary.good c.args.r free_room (ap kind_of c.requires.kind_value) c.free_room_row.ensures refl c.fields.ensures c.in_err-fields.was

pub lowest_free-requires : goal.lowest_free-requires
unfolding kind_of
lowest_free-requires c =
    let h = ready c.args.diary.good c.args.r free_room (ap kind_of c.requires.kind_value) c.free_room_row.ensures refl (none-no c.fields.ensures c.in_ok-fields.was) in
    record {
      first_le_last = omega (arith, h.order);
      last_bound = h.slot;
    }

pub returns : goal.returns
unfolding kind_of in_words
returns c =
    c.ok_or.ensures.value
    ∙ or-refused 22 0 _
    ∙ ap (found_or 22 0) c.lowest_free.ensures
    ∙ answered-by c.args.diary.good c.args.diary.site.sited c.args.r free_room (ap kind_of c.requires.kind_value) c.free_room_row.ensures refl (none-no c.fields.ensures c.in_ok-fields.was)
