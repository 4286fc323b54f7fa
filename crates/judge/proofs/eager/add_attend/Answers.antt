-- Questions 4 to 7 by the kind's row, and past them all of the kind's own.
-- Assumes nothing.
use mathlib.Core.Path.{refl, ◌∙◌, ap}
use native.Mathlib.Omega.{arith}
use Rattle.book.proofs.Goods.{good-laid}
use Rattle.book.proofs.Regions.{group-lt}
use Rattle.book.specs.declared.grid.Grids.{Grids}
use Rattle.judge.proofs.Meanings.{answered-by}
use Rattle.model.proofs.Answers.{err-is}
use Rattle.judge.proofs.Whole.{none-no, refused-fields, ready}
use Rattle.judge.specs.Chains.{in_words, attend_adds}
use Rattle.model.specs.Kinds.{kind_of, Kind.add_attend}
use Rattle.model.specs.Words.{standings, attend_cells}
use Rattle.questions.proofs.Grounds.{ground}
use Rattle.questions.proofs.Shown.{stands-fail}
use Rattle.judge.proofs.Together.{stops, goes}
use Rattle.judge.proofs.eager.add_attend.Goals as goal

pub attend_row-requires : goal.attend_row-requires
attend_row-requires c = (good-laid c.args.diary.good).ranges

pub returns-in_err-fields : goal.returns-in_err-fields
unfolding kind_of
returns-in_err-fields c =
    err-is _ c.from_residual.ensures.1
    ∙ refused-fields c.args.diary.good c.args.r add_attend (ap kind_of c.requires.kind_value) c.attend_row.ensures refl c.fields.ensures c.in_err-fields.was

pub first_off_leave-away-requires : goal.first_off_leave-away-requires
unfolding kind_of
first_off_leave-away-requires c =
    let h = ready c.args.diary.good c.args.r add_attend (ap kind_of c.requires.kind_value) c.attend_row.ensures
    refl (none-no c.fields.ensures c.in_ok-fields.was) in
    record {
      last_bound = h.slot;
      visitor_lt_visitors = h.b;
    }

pub first_not_member-ended-requires : goal.first_not_member-ended-requires
unfolding kind_of
first_not_member-ended-requires c =
    let h = ready c.args.diary.good c.args.r add_attend (ap kind_of c.requires.kind_value) c.attend_row.ensures
    refl (none-no c.fields.ensures c.in_ok-fields.was) in
    let both = ground c.args.diary.good standings (c.standing.ensures.grid ∙ ap (λ (g : Grids). g.standing) c.args.diary.site.sited) h.slot
    (group-lt c.args.diary.site.settings.meetings c.args.r.a h.a) in
    record { last_lt_slots = both.1.0; v_bound = both.1.1 }

pub overflow_add-r : goal.overflow_add-r
unfolding kind_of
overflow_add-r c =
    let h = ready c.args.diary.good c.args.r add_attend (ap kind_of c.requires.kind_value) c.attend_row.ensures
    refl (none-no c.fields.ensures c.in_ok-fields.was) in
    omega (arith, (good-laid c.args.diary.good).ranges.meetings, h.a)

pub first_with-there-requires : goal.first_with-there-requires
unfolding kind_of
first_with-there-requires c =
    let h = ready c.args.diary.good c.args.r add_attend (ap kind_of c.requires.kind_value) c.attend_row.ensures
    refl (none-no c.fields.ensures c.in_ok-fields.was) in
    let both = ground c.args.diary.good attend_cells (c.attend-cells.ensures.grid ∙ ap (λ (g : Grids). g.attend) c.args.diary.site.sited) h.slot h.b in
    record { last_lt_slots = both.1.0; item_lt_g = both.1.1 }

pub first_without-elsewhere-requires : goal.first_without-elsewhere-requires
unfolding kind_of
first_without-elsewhere-requires c =
    let h = ready c.args.diary.good c.args.r add_attend (ap kind_of c.requires.kind_value) c.attend_row.ensures
    refl (none-no c.fields.ensures c.in_ok-fields.was) in
    let both = ground c.args.diary.good attend_cells (c.attend-cells.ensures.grid ∙ ap (λ (g : Grids). g.attend) c.args.diary.site.sited) h.slot h.b in
    record { last_lt_slots = both.1.0; item_lt_g = both.1.1 }

pub returns-in_err-ask : goal.returns-in_err-ask
unfolding kind_of in_words attend_adds
returns-in_err-ask c =
    let h = ready c.args.diary.good c.args.r add_attend (ap kind_of c.requires.kind_value) c.attend_row.ensures refl (none-no c.fields.ensures c.in_ok-fields.was) in
    err-is _ c.from_residual-in_err-ask.ensures.1
    ∙ (stops 9 _ c.ask.ensures c.first_off_leave-away.ensures c.in_err-ask.was)
    ∙ answered-by c.args.diary.good c.args.diary.site.sited c.args.r add_attend (ap kind_of c.requires.kind_value) c.attend_row.ensures refl (none-no c.fields.ensures c.in_ok-fields.was)

pub returns-in_err-ask-2 : goal.returns-in_err-ask-2
unfolding kind_of in_words attend_adds
returns-in_err-ask-2 c =
    let h = ready c.args.diary.good c.args.r add_attend (ap kind_of c.requires.kind_value) c.attend_row.ensures refl (none-no c.fields.ensures c.in_ok-fields.was) in
    err-is _ c.from_residual-in_err-ask-2.ensures.1
    ∙ (goes 9 c.ask.ensures c.first_off_leave-away.ensures c.in_ok-ask.was
    (stops 10 _ c.ask-2.ensures ((rw (c.standing.ensures.grid, c.standing.ensures.words) at c.first_not_member-ended.ensures) ∙ stands-fail c.args.diary.good c.args.diary.site.sited c.args.r.first c.args.r.last c.args.r.a h.a h.slot) c.in_err-ask-2.was))
    ∙ answered-by c.args.diary.good c.args.diary.site.sited c.args.r add_attend (ap kind_of c.requires.kind_value) c.attend_row.ensures refl (none-no c.fields.ensures c.in_ok-fields.was)

pub returns-in_err-ask-3 : goal.returns-in_err-ask-3
unfolding kind_of in_words attend_adds
returns-in_err-ask-3 c =
    let h = ready c.args.diary.good c.args.r add_attend (ap kind_of c.requires.kind_value) c.attend_row.ensures refl (none-no c.fields.ensures c.in_ok-fields.was) in
    err-is _ c.from_residual-in_err-ask-3.ensures.1
    ∙ (goes 9 c.ask.ensures c.first_off_leave-away.ensures c.in_ok-ask.was
    (goes 10 c.ask-2.ensures ((rw (c.standing.ensures.grid, c.standing.ensures.words) at c.first_not_member-ended.ensures) ∙ stands-fail c.args.diary.good c.args.diary.site.sited c.args.r.first c.args.r.last c.args.r.a h.a h.slot) c.in_ok-ask-2.was
    (stops 11 _ c.ask-3.ensures (rw (c.attend-cells.ensures.grid, c.attend-cells.ensures.words) at c.first_with-there.ensures) c.in_err-ask-3.was)))
    ∙ answered-by c.args.diary.good c.args.diary.site.sited c.args.r add_attend (ap kind_of c.requires.kind_value) c.attend_row.ensures refl (none-no c.fields.ensures c.in_ok-fields.was)

pub returns-in_err-ask-4 : goal.returns-in_err-ask-4
unfolding kind_of in_words attend_adds
returns-in_err-ask-4 c =
    let h = ready c.args.diary.good c.args.r add_attend (ap kind_of c.requires.kind_value) c.attend_row.ensures refl (none-no c.fields.ensures c.in_ok-fields.was) in
    err-is _ c.from_residual-in_err-ask-4.ensures.1
    ∙ (goes 9 c.ask.ensures c.first_off_leave-away.ensures c.in_ok-ask.was
    (goes 10 c.ask-2.ensures ((rw (c.standing.ensures.grid, c.standing.ensures.words) at c.first_not_member-ended.ensures) ∙ stands-fail c.args.diary.good c.args.diary.site.sited c.args.r.first c.args.r.last c.args.r.a h.a h.slot) c.in_ok-ask-2.was
    (goes 11 c.ask-3.ensures (rw (c.attend-cells.ensures.grid, c.attend-cells.ensures.words) at c.first_with-there.ensures) c.in_ok-ask-3.was
    (stops 13 _ c.ask-4.ensures (rw (c.attend-cells.ensures.grid, c.attend-cells.ensures.words) at c.first_without-elsewhere.ensures) c.in_err-ask-4.was))))
    ∙ answered-by c.args.diary.good c.args.diary.site.sited c.args.r add_attend (ap kind_of c.requires.kind_value) c.attend_row.ensures refl (none-no c.fields.ensures c.in_ok-fields.was)

pub returns : goal.returns
unfolding kind_of in_words attend_adds
returns c =
    let h = ready c.args.diary.good c.args.r add_attend (ap kind_of c.requires.kind_value) c.attend_row.ensures refl (none-no c.fields.ensures c.in_ok-fields.was) in
    (goes 9 c.ask.ensures c.first_off_leave-away.ensures c.in_ok-ask.was
    (goes 10 c.ask-2.ensures ((rw (c.standing.ensures.grid, c.standing.ensures.words) at c.first_not_member-ended.ensures) ∙ stands-fail c.args.diary.good c.args.diary.site.sited c.args.r.first c.args.r.last c.args.r.a h.a h.slot) c.in_ok-ask-2.was
    (goes 11 c.ask-3.ensures (rw (c.attend-cells.ensures.grid, c.attend-cells.ensures.words) at c.first_with-there.ensures) c.in_ok-ask-3.was
    (goes 13 c.ask-4.ensures (rw (c.attend-cells.ensures.grid, c.attend-cells.ensures.words) at c.first_without-elsewhere.ensures) c.in_ok-ask-4.was
    refl))))
    ∙ answered-by c.args.diary.good c.args.diary.site.sited c.args.r add_attend (ap kind_of c.requires.kind_value) c.attend_row.ensures refl (none-no c.fields.ensures c.in_ok-fields.was)
