-- Questions 4 to 7 by the kind's row, and past them the kind's own.
-- Assumes nothing.
use mathlib.Core.Path.{refl, ◌∙◌, ap}
use native.Mathlib.Omega.{arith}
use Rattle.book.specs.declared.grid.Grids.{Grids}
use Rattle.book.proofs.Goods.{good-laid}
use Rattle.model.specs.Kinds.{kind_of, Kind.erase_conf}
use Rattle.model.specs.Words.{conf_pairs}
use Rattle.questions.proofs.Grounds.{row-ground}
use Rattle.questions.proofs.Shown.{conf-fail}
use Rattle.judge.specs.Chains.{in_words}
use Rattle.model.proofs.Answers.{err-is}
use Rattle.judge.proofs.Whole.{none-no, refused-fields, ready}
use Rattle.judge.proofs.Meanings.{answered-by}
use Rattle.judge.proofs.Together.{stops, goes}
use Rattle.judge.proofs.meetings.erase_conf.Goals as goal

pub meeting_row-requires : goal.meeting_row-requires
meeting_row-requires c = (good-laid c.args.diary.good).ranges

pub returns-in_err-fields : goal.returns-in_err-fields
unfolding kind_of
returns-in_err-fields c =
    err-is _ c.from_residual.ensures.1
    ∙ refused-fields c.args.diary.good c.args.r erase_conf (ap kind_of c.requires.kind_value) c.meeting_row.ensures refl c.fields.ensures c.in_err-fields.was

pub overflow_add-r : goal.overflow_add-r
unfolding kind_of
overflow_add-r c =
    let h = ready c.args.diary.good c.args.r erase_conf (ap kind_of c.requires.kind_value) c.meeting_row.ensures refl (none-no c.fields.ensures c.in_ok-fields.was) in
    omega (arith, (good-laid c.args.diary.good).ranges.meetings, h.b)

pub first_row_without-requires : goal.first_row_without-requires
unfolding kind_of
first_row_without-requires c =
    let h = ready c.args.diary.good c.args.r erase_conf (ap kind_of c.requires.kind_value) c.meeting_row.ensures refl (none-no c.fields.ensures c.in_ok-fields.was) in
    let both = row-ground c.args.diary.good conf_pairs (c.conf.ensures.grid ∙ ap (λ (g : Grids). g.conf) c.args.diary.site.sited) (omega (arith, h.slot)) in
    record { last_lt_slots = both.1 }

pub returns-in_err-ask : goal.returns-in_err-ask
unfolding kind_of in_words
returns-in_err-ask c =
    let h = ready c.args.diary.good c.args.r erase_conf (ap kind_of c.requires.kind_value) c.meeting_row.ensures refl (none-no c.fields.ensures c.in_ok-fields.was) in
    err-is _ c.from_residual-in_err-ask.ensures.1
    ∙ (stops 16 _ c.ask.ensures ((rw (c.conf.ensures.grid, c.conf.ensures.words) at c.first_row_without.ensures) ∙ conf-fail c.args.diary.good c.args.diary.site.sited c.args.r.first c.args.r.last c.args.r.b h.b (omega (arith, h.slot))) c.in_err-ask.was)
    ∙ answered-by c.args.diary.good c.args.diary.site.sited c.args.r erase_conf (ap kind_of c.requires.kind_value) c.meeting_row.ensures refl (none-no c.fields.ensures c.in_ok-fields.was)

pub returns : goal.returns
unfolding kind_of in_words
returns c =
    let h = ready c.args.diary.good c.args.r erase_conf (ap kind_of c.requires.kind_value) c.meeting_row.ensures refl (none-no c.fields.ensures c.in_ok-fields.was) in
    (goes 16 c.ask.ensures ((rw (c.conf.ensures.grid, c.conf.ensures.words) at c.first_row_without.ensures) ∙ conf-fail c.args.diary.good c.args.diary.site.sited c.args.r.first c.args.r.last c.args.r.b h.b (omega (arith, h.slot))) c.in_ok-ask.was
    refl)
    ∙ answered-by c.args.diary.good c.args.diary.site.sited c.args.r erase_conf (ap kind_of c.requires.kind_value) c.meeting_row.ensures refl (none-no c.fields.ensures c.in_ok-fields.was)
