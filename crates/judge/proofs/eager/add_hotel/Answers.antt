-- Questions 4 to 7 by the kind's row, and past them all of the kind's own.
-- Assumes nothing.
use mathlib.Core.Path.{refl, ◌∙◌, ap}
use native.Mathlib.Omega.{arith}
use Rattle.book.proofs.Goods.{good-laid}
use Rattle.book.proofs.Regions.{group-lt}
use Rattle.book.specs.declared.grid.Grids.{Grids}
use Rattle.judge.proofs.Meanings.{answered-by}
use Rattle.model.proofs.Answers.{err-is}
use Rattle.judge.proofs.Whole.{none-no, refused-fields, ready}
use Rattle.judge.specs.Chains.{in_words, add_stay, stay_adds}
use Rattle.model.specs.Kinds.{kind_of, Kind.add_hotel}
use Rattle.model.specs.Words.{leaves, hotel_cells}
use Rattle.questions.proofs.Grounds.{ground}
use Rattle.questions.proofs.Shown.{leave-fail}
use Rattle.book.specs.Lent.{reading}
use Prim.Native.Nat.{◌+◌}
use Rattle.judge.proofs.eager.add_hotel.Goals as goal

pub returns-in_err-fields : goal.returns-in_err-fields
unfolding kind_of
returns-in_err-fields c =
    err-is _ c.from_residual.ensures.1
    ∙ refused-fields c.args.diary.good c.args.r add_hotel (ap kind_of c.requires.kind_value) c.hotel_row.ensures refl c.fields.ensures c.in_err-fields.was

pub first_not_member-away-requires : goal.first_not_member-away-requires
unfolding kind_of
first_not_member-away-requires c =
    let h = ready c.args.diary.good c.args.r add_hotel (ap kind_of c.requires.kind_value) c.hotel_row.ensures
    refl (none-no c.fields.ensures c.in_ok-fields.was) in
    let both = ground c.args.diary.good leaves (c.leave.ensures.grid ∙ ap (λ (g : Grids). g.leave) c.args.diary.site.sited) h.slot
    (group-lt c.args.diary.site.settings.visitors c.args.r.b h.b) in
    record { last_lt_slots = both.1.0; v_bound = both.1.1 }

pub overflow_add-r : goal.overflow_add-r
unfolding kind_of
overflow_add-r c =
    let h = ready c.args.diary.good c.args.r add_hotel (ap kind_of c.requires.kind_value) c.hotel_row.ensures
    refl (none-no c.fields.ensures c.in_ok-fields.was) in
    omega (arith, (good-laid c.args.diary.good).ranges.visitors, h.b)

pub stay-requires : goal.stay-requires
unfolding kind_of
stay-requires c =
    let h = ready c.args.diary.good c.args.r add_hotel (ap kind_of c.requires.kind_value) c.hotel_row.ensures refl (none-no c.fields.ensures c.in_ok-fields.was) in
    let both = ground c.args.diary.good hotel_cells (c.hotel.ensures.grid ∙ ap (λ (g : Grids). g.hotel) c.args.diary.site.sited) h.slot h.a in
    record { last_lt_slots = both.1.0; a_lt_items = both.1.1 }

pub returns : goal.returns
unfolding kind_of in_words add_stay
returns c =
    let h = ready c.args.diary.good c.args.r add_hotel (ap kind_of c.requires.kind_value) c.hotel_row.ensures refl (none-no c.fields.ensures c.in_ok-fields.was) in
    (rw (c.hotel.ensures.grid, c.hotel.ensures.words) at c.stay.ensures)
    ∙ ap (λ away. stay_adds away (reading c.args.diary.words.now) c.args.diary.site.grids.hotel c.args.r.a (c.args.r.b + 1) c.args.r.first c.args.r.last) ((rw (c.leave.ensures.grid, c.leave.ensures.words) at c.first_not_member-away.ensures) ∙ leave-fail c.args.diary.good c.args.diary.site.sited c.args.r.first c.args.r.last c.args.r.b h.b h.slot)
    ∙ answered-by c.args.diary.good c.args.diary.site.sited c.args.r add_hotel (ap kind_of c.requires.kind_value) c.hotel_row.ensures refl (none-no c.fields.ensures c.in_ok-fields.was)
