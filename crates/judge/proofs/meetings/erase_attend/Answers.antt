-- Questions 4 to 7 by the kind's row, and past them the kind's own.
-- Assumes nothing.
use mathlib.Core.Path.{refl, ◌∙◌, ap}
use native.Mathlib.Omega.{arith}
use Rattle.book.specs.declared.grid.Grids.{Grids}
use Rattle.book.proofs.Goods.{good-laid}
use Rattle.model.specs.Kinds.{kind_of, Kind.erase_attend}
use Rattle.model.specs.Words.{attend_cells}
use Rattle.questions.proofs.Grounds.{ground}
use Rattle.judge.specs.Chains.{in_words}
use Rattle.model.proofs.Answers.{err-is}
use Rattle.judge.proofs.Whole.{none-no, refused-fields, ready}
use Rattle.judge.proofs.Meanings.{answered-by}
use Rattle.judge.proofs.meetings.erase_attend.Goals as goal

pub attend_row-requires : goal.attend_row-requires
attend_row-requires c = (good-laid c.args.diary.good).ranges

pub returns-in_err-fields : goal.returns-in_err-fields
unfolding kind_of
returns-in_err-fields c =
    err-is _ c.from_residual.ensures.1
    ∙ refused-fields c.args.diary.good c.args.r erase_attend (ap kind_of c.requires.kind_value) c.attend_row.ensures refl c.fields.ensures c.in_err-fields.was

pub overflow_add-r : goal.overflow_add-r
unfolding kind_of
overflow_add-r c =
    let h = ready c.args.diary.good c.args.r erase_attend (ap kind_of c.requires.kind_value) c.attend_row.ensures refl (none-no c.fields.ensures c.in_ok-fields.was) in
    omega (arith, (good-laid c.args.diary.good).ranges.meetings, h.a)

pub erase-requires : goal.erase-requires
unfolding kind_of
erase-requires c =
    let h = ready c.args.diary.good c.args.r erase_attend (ap kind_of c.requires.kind_value) c.attend_row.ensures refl (none-no c.fields.ensures c.in_ok-fields.was) in
    let both = ground c.args.diary.good attend_cells (c.attend.ensures.grid ∙ ap (λ (g : Grids). g.attend) c.args.diary.site.sited) (omega (arith, h.order, h.slot)) h.b in
    record { last_lt_slots = both.1.0; item_lt_cells = both.1.1 }

pub returns : goal.returns
unfolding kind_of in_words
returns c =
    (rw (c.attend.ensures.grid, c.attend.ensures.words) at c.erase.ensures)
    ∙ answered-by c.args.diary.good c.args.diary.site.sited c.args.r erase_attend (ap kind_of c.requires.kind_value) c.attend_row.ensures refl (none-no c.fields.ensures c.in_ok-fields.was)
