-- The questions of kind 4, one after the other.
-- Assumes nothing.
use mathlib.Core.Path.{refl, ◌∙◌, ap}
use native.Mathlib.Omega.{arith}
use Rattle.book.specs.declared.grid.Grids.{Grids}
use Rattle.book.proofs.Goods.{good-laid}
use Rattle.model.specs.Words.{leaves, hotel_cells}
use Rattle.book.proofs.Regions.{group-lt}
use Rattle.questions.proofs.Shown.{leave-fail}
use Rattle.questions.proofs.Grounds.{ground, row-ground}
use Rattle.judge.specs.Chains.{add_stay, stay_adds}
use Rattle.judge.proofs.Together.{stops, goes}
use Rattle.model.proofs.Answers.{err-is}
use Rattle.judge.proofs.answers.add_hotel.Goals as goal

pub first_not_member-away-requires : goal.first_not_member-away-requires
first_not_member-away-requires c =
    let a = c.args in
    let both = ground c.args.diary.good leaves (c.leave.ensures.grid ∙ ap (λ (g : Grids). g.leave) c.args.diary.site.sited) c.requires.last_lt_dates (group-lt a.diary.site.settings.visitors a.b c.requires.b_lt_visitors) in
    record { last_lt_slots = both.1.0; v_bound = both.1.1 }

pub overflow_add-b : goal.overflow_add-b
overflow_add-b c =
    omega (arith, (good-laid c.args.diary.good).ranges.visitors, c.requires.b_lt_visitors)

pub first_with-there-requires : goal.first_with-there-requires
first_with-there-requires c = let both = ground c.args.diary.good hotel_cells (c.hotel-cells.ensures.grid ∙ ap (λ (g : Grids). g.hotel) c.args.diary.site.sited) c.requires.last_lt_dates c.requires.a_lt_hotels in
    record { last_lt_slots = both.1.0; item_lt_g = both.1.1 }

pub first_without-requires : goal.first_without-requires
first_without-requires c = let both = ground c.args.diary.good hotel_cells (c.hotel-cells.ensures.grid ∙ ap (λ (g : Grids). g.hotel) c.args.diary.site.sited) c.requires.last_lt_dates c.requires.a_lt_hotels in
    record { last_lt_slots = both.1.0; item_lt_g = both.1.1 }

pub overflow_add-b-2 : goal.overflow_add-b-2
overflow_add-b-2 c =
    omega (arith, (good-laid c.args.diary.good).ranges.visitors, c.requires.b_lt_visitors)

pub first_row_with-requires : goal.first_row_with-requires
first_row_with-requires c = let both = row-ground c.args.diary.good hotel_cells (c.hotel-cells.ensures.grid ∙ ap (λ (g : Grids). g.hotel) c.args.diary.site.sited) c.requires.last_lt_dates in
    record { last_lt_slots = both.1 }

pub returns-in_err-ask : goal.returns-in_err-ask
unfolding add_stay stay_adds
returns-in_err-ask c =
    let a = c.args in
    err-is _ c.from_residual.ensures.1
    ∙ (stops 9 _ c.ask.ensures ((rw (c.leave.ensures.grid, c.leave.ensures.words) at c.first_not_member-away.ensures) ∙ leave-fail c.args.diary.good c.args.diary.site.sited a.first.0 a.last.0 a.b c.requires.b_lt_visitors c.requires.last_lt_dates) c.in_err-ask.was)

pub returns-in_err-ask-2 : goal.returns-in_err-ask-2
unfolding add_stay stay_adds
returns-in_err-ask-2 c =
    let a = c.args in
    err-is _ c.from_residual-in_err-ask-2.ensures.1
    ∙ (goes 9 c.ask.ensures ((rw (c.leave.ensures.grid, c.leave.ensures.words) at c.first_not_member-away.ensures) ∙ leave-fail c.args.diary.good c.args.diary.site.sited a.first.0 a.last.0 a.b c.requires.b_lt_visitors c.requires.last_lt_dates) c.in_ok-ask.was
    (stops 11 _ c.ask-2.ensures (rw (c.hotel-cells.ensures.grid, c.hotel-cells.ensures.words) at c.first_with-there.ensures) c.in_err-ask-2.was))

pub returns-in_err-ask-3 : goal.returns-in_err-ask-3
unfolding add_stay stay_adds
returns-in_err-ask-3 c =
    let a = c.args in
    err-is _ c.from_residual-in_err-ask-3.ensures.1
    ∙ (goes 9 c.ask.ensures ((rw (c.leave.ensures.grid, c.leave.ensures.words) at c.first_not_member-away.ensures) ∙ leave-fail c.args.diary.good c.args.diary.site.sited a.first.0 a.last.0 a.b c.requires.b_lt_visitors c.requires.last_lt_dates) c.in_ok-ask.was
    (goes 11 c.ask-2.ensures (rw (c.hotel-cells.ensures.grid, c.hotel-cells.ensures.words) at c.first_with-there.ensures) c.in_ok-ask-2.was
    (stops 12 _ c.ask-3.ensures (rw (c.hotel-cells.ensures.grid, c.hotel-cells.ensures.words) at c.first_without.ensures) c.in_err-ask-3.was)))

pub returns-in_err-ask-4 : goal.returns-in_err-ask-4
unfolding add_stay stay_adds
returns-in_err-ask-4 c =
    let a = c.args in
    err-is _ c.from_residual-in_err-ask-4.ensures.1
    ∙ (goes 9 c.ask.ensures ((rw (c.leave.ensures.grid, c.leave.ensures.words) at c.first_not_member-away.ensures) ∙ leave-fail c.args.diary.good c.args.diary.site.sited a.first.0 a.last.0 a.b c.requires.b_lt_visitors c.requires.last_lt_dates) c.in_ok-ask.was
    (goes 11 c.ask-2.ensures (rw (c.hotel-cells.ensures.grid, c.hotel-cells.ensures.words) at c.first_with-there.ensures) c.in_ok-ask-2.was
    (goes 12 c.ask-3.ensures (rw (c.hotel-cells.ensures.grid, c.hotel-cells.ensures.words) at c.first_without.ensures) c.in_ok-ask-3.was
    (stops 13 _ c.ask-4.ensures (rw (c.hotel-cells.ensures.grid, c.hotel-cells.ensures.words) at c.first_row_with.ensures) c.in_err-ask-4.was))))

pub returns : goal.returns
unfolding add_stay stay_adds
returns c =
    let a = c.args in
    (goes 9 c.ask.ensures ((rw (c.leave.ensures.grid, c.leave.ensures.words) at c.first_not_member-away.ensures) ∙ leave-fail c.args.diary.good c.args.diary.site.sited a.first.0 a.last.0 a.b c.requires.b_lt_visitors c.requires.last_lt_dates) c.in_ok-ask.was
    (goes 11 c.ask-2.ensures (rw (c.hotel-cells.ensures.grid, c.hotel-cells.ensures.words) at c.first_with-there.ensures) c.in_ok-ask-2.was
    (goes 12 c.ask-3.ensures (rw (c.hotel-cells.ensures.grid, c.hotel-cells.ensures.words) at c.first_without.ensures) c.in_ok-ask-3.was
    (goes 13 c.ask-4.ensures (rw (c.hotel-cells.ensures.grid, c.hotel-cells.ensures.words) at c.first_row_with.ensures) c.in_ok-ask-4.was
    refl))))
