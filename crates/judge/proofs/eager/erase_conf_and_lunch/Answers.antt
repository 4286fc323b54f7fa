-- Questions 4 to 7 by the kind's row, and past them all of the kind's own.
-- Assumes nothing.
use Prim.Native.Nat.{◌<◌}
use mathlib.Core.Path.{refl, ◌∙◌, ap}
use mathlib.Core.Path.{refl, ap₂}
use native.Mathlib.Omega.{arith}
use Rattle.book.proofs.Goods.{good-laid}
use Rattle.book.specs.Lent.{reading}
use Rattle.book.specs.declared.grid.Grids.{Grids}
use Rattle.judge.proofs.Meanings.{answered-by}
use Rattle.model.proofs.Answers.{err-is}
use Rattle.judge.proofs.Whole.{none-no, refused-fields, ready}
use Rattle.judge.specs.Chains.{in_words, erase_all}
use Rattle.model.specs.Kinds.{kind_of, Kind.erase_conf_and_lunch}
use Rattle.model.specs.Kinds.{sessions}
use Rattle.model.specs.Words.{conf_pairs, lunch_triples}
use Rattle.questions.proofs.Grounds.{ground, row-ground}
use Rattle.questions.proofs.Shown.{conf-fail, lunch-fail}
use Rattle.questions.specs.Asked.{HasLunch, slots_fail}
use Rattle.units.proofs.Slots.{date-lt}
use Rattle.judge.proofs.Together.{stops, goes}
use Rattle.judge.proofs.eager.erase_conf_and_lunch.Goals as goal

pub meeting_row-requires : goal.meeting_row-requires
meeting_row-requires c = (good-laid c.args.diary.good).ranges

pub returns-in_err-fields : goal.returns-in_err-fields
unfolding kind_of
returns-in_err-fields c =
    err-is _ c.from_residual.ensures.1
    ∙ refused-fields c.args.diary.good c.args.r erase_conf_and_lunch (ap kind_of c.requires.kind_value) c.meeting_row.ensures refl c.fields.ensures c.in_err-fields.was

pub date_of-from-requires : goal.date_of-from-requires
date_of-from-requires c =
    (good-laid c.args.diary.good).ranges

pub date_of-to-requires : goal.date_of-to-requires
date_of-to-requires c =
    (good-laid c.args.diary.good).ranges

pub overflow_add-r : goal.overflow_add-r
unfolding kind_of
overflow_add-r c =
    let h = ready c.args.diary.good c.args.r erase_conf_and_lunch (ap kind_of c.requires.kind_value) c.meeting_row.ensures
    refl (none-no c.fields.ensures c.in_ok-fields.was) in
    omega (arith, (good-laid c.args.diary.good).ranges.meetings, h.b)

pub first_row_without-roomless-requires : goal.first_row_without-roomless-requires
unfolding kind_of
first_row_without-roomless-requires c =
    let h = ready c.args.diary.good c.args.r erase_conf_and_lunch (ap kind_of c.requires.kind_value) c.meeting_row.ensures
    refl (none-no c.fields.ensures c.in_ok-fields.was) in
    let both = row-ground c.args.diary.good conf_pairs (c.conf.ensures.grid ∙ ap (λ (g : Grids). g.conf) c.args.diary.site.sited) h.slot in
    record { last_lt_slots = both.1 }

pub first_with-unfed-requires : goal.first_with-unfed-requires
unfolding kind_of
first_with-unfed-requires c =
    let h = ready c.args.diary.good c.args.r erase_conf_and_lunch (ap kind_of c.requires.kind_value) c.meeting_row.ensures
    refl (none-no c.fields.ensures c.in_ok-fields.was) in
    let d : c.date_of-to.result.0 < c.args.diary.site.settings.dates =
    rw c.date_of-to.ensures (date-lt c.args.diary.site.settings (good-laid c.args.diary.good).ranges sessions c.args.r.last h.slot) in
    let both = ground c.args.diary.good lunch_triples (c.lunch.ensures.grid ∙ ap (λ (g : Grids). g.lunch) c.args.diary.site.sited) d h.b in
    record { last_lt_slots = both.1.0; item_lt_g = both.1.1 }

pub returns-in_err-ask : goal.returns-in_err-ask
unfolding kind_of in_words erase_all
returns-in_err-ask c =
    let h = ready c.args.diary.good c.args.r erase_conf_and_lunch (ap kind_of c.requires.kind_value) c.meeting_row.ensures refl (none-no c.fields.ensures c.in_ok-fields.was) in
    let d : c.date_of-to.result.0 < c.args.diary.site.settings.dates =
    rw c.date_of-to.ensures (date-lt c.args.diary.site.settings (good-laid c.args.diary.good).ranges sessions c.args.r.last h.slot) in
    err-is _ c.from_residual-in_err-ask.ensures.1
    ∙ (stops 16 _ c.ask.ensures ((rw (c.conf.ensures.grid, c.conf.ensures.words) at c.first_row_without-roomless.ensures) ∙ conf-fail c.args.diary.good c.args.diary.site.sited c.args.r.first c.args.r.last c.args.r.b h.b h.slot) c.in_err-ask.was)
    ∙ answered-by c.args.diary.good c.args.diary.site.sited c.args.r erase_conf_and_lunch (ap kind_of c.requires.kind_value) c.meeting_row.ensures refl (none-no c.fields.ensures c.in_ok-fields.was)

pub returns-in_err-ask-2 : goal.returns-in_err-ask-2
unfolding kind_of in_words erase_all
returns-in_err-ask-2 c =
    let h = ready c.args.diary.good c.args.r erase_conf_and_lunch (ap kind_of c.requires.kind_value) c.meeting_row.ensures refl (none-no c.fields.ensures c.in_ok-fields.was) in
    let d : c.date_of-to.result.0 < c.args.diary.site.settings.dates =
    rw c.date_of-to.ensures (date-lt c.args.diary.site.settings (good-laid c.args.diary.good).ranges sessions c.args.r.last h.slot) in
    err-is _ c.from_residual-in_err-ask-2.ensures.1
    ∙ (goes 16 c.ask.ensures ((rw (c.conf.ensures.grid, c.conf.ensures.words) at c.first_row_without-roomless.ensures) ∙ conf-fail c.args.diary.good c.args.diary.site.sited c.args.r.first c.args.r.last c.args.r.b h.b h.slot) c.in_ok-ask.was
    (stops 17 _ c.ask-2.ensures ((rw (c.lunch.ensures.grid, c.lunch.ensures.words) at c.first_with-unfed.ensures)
    ∙ lunch-fail c.args.diary.good c.args.diary.site.sited c.date_of-from.result.0 c.date_of-to.result.0 c.args.r.b h.b d
    ∙ ap₂ (λ i j. slots_fail c.args.diary.site.settings (reading c.args.diary.words.now) HasLunch c.args.r.b 0 i j) c.date_of-from.ensures c.date_of-to.ensures) c.in_err-ask-2.was))
    ∙ answered-by c.args.diary.good c.args.diary.site.sited c.args.r erase_conf_and_lunch (ap kind_of c.requires.kind_value) c.meeting_row.ensures refl (none-no c.fields.ensures c.in_ok-fields.was)

pub returns : goal.returns
unfolding kind_of in_words erase_all
returns c =
    let h = ready c.args.diary.good c.args.r erase_conf_and_lunch (ap kind_of c.requires.kind_value) c.meeting_row.ensures refl (none-no c.fields.ensures c.in_ok-fields.was) in
    let d : c.date_of-to.result.0 < c.args.diary.site.settings.dates =
    rw c.date_of-to.ensures (date-lt c.args.diary.site.settings (good-laid c.args.diary.good).ranges sessions c.args.r.last h.slot) in
    (goes 16 c.ask.ensures ((rw (c.conf.ensures.grid, c.conf.ensures.words) at c.first_row_without-roomless.ensures) ∙ conf-fail c.args.diary.good c.args.diary.site.sited c.args.r.first c.args.r.last c.args.r.b h.b h.slot) c.in_ok-ask.was
    (goes 17 c.ask-2.ensures ((rw (c.lunch.ensures.grid, c.lunch.ensures.words) at c.first_with-unfed.ensures)
    ∙ lunch-fail c.args.diary.good c.args.diary.site.sited c.date_of-from.result.0 c.date_of-to.result.0 c.args.r.b h.b d
    ∙ ap₂ (λ i j. slots_fail c.args.diary.site.settings (reading c.args.diary.words.now) HasLunch c.args.r.b 0 i j) c.date_of-from.ensures c.date_of-to.ensures) c.in_ok-ask-2.was
    refl))
    ∙ answered-by c.args.diary.good c.args.diary.site.sited c.args.r erase_conf_and_lunch (ap kind_of c.requires.kind_value) c.meeting_row.ensures refl (none-no c.fields.ensures c.in_ok-fields.was)
