-- The questions of kind 16, one after the other.
-- Assumes nothing.
use mathlib.Core.Path.{ap₂, refl, ◌∙◌, ap}
use native.Mathlib.Omega.{arith}
use Rattle.book.specs.declared.grid.Grids.{Grids}
use Rattle.book.proofs.Goods.{good-laid}
use Prim.Native.Nat.{◌<◌}
use Rattle.model.specs.Kinds.{sessions}
use Rattle.model.specs.Words.{conf_pairs, lunch_triples}
use Rattle.units.proofs.Slots.{date-lt}
use Rattle.questions.proofs.Shown.{conf-fail, lunch-fail}
use Rattle.questions.proofs.Grounds.{ground, row-ground}
use Rattle.judge.specs.Chains.{erase_all}
use Rattle.book.specs.Lent.{reading}
use Rattle.questions.specs.Asked.{HasLunch, slots_fail}
use Rattle.judge.proofs.Together.{stops, goes}
use Rattle.model.proofs.Answers.{err-is}
use Rattle.judge.proofs.answers.erase_all.Goals as goal

pub overflow_add-b : goal.overflow_add-b
overflow_add-b c =
    omega (arith, (good-laid c.args.diary.good).ranges.meetings, c.requires.b_lt_meetings)

pub first_row_without-requires : goal.first_row_without-requires
first_row_without-requires c = let both = row-ground c.args.diary.good conf_pairs (c.conf.ensures.grid ∙ ap (λ (g : Grids). g.conf) c.args.diary.site.sited) c.requires.last_bound in
    record { last_lt_slots = both.1 }

pub date_of-from-requires : goal.date_of-from-requires
date_of-from-requires c = (good-laid c.args.diary.good).ranges

pub date_of-to-requires : goal.date_of-to-requires
date_of-to-requires c = (good-laid c.args.diary.good).ranges

pub first_with-requires : goal.first_with-requires
first_with-requires c =
    let a = c.args in
    let d : c.date_of-to.result.0 < a.diary.site.settings.dates =
    rw c.date_of-to.ensures (date-lt a.diary.site.settings (good-laid c.args.diary.good).ranges sessions a.last.0 c.requires.last_bound) in
    let both = ground c.args.diary.good lunch_triples (c.lunch.ensures.grid ∙ ap (λ (g : Grids). g.lunch) c.args.diary.site.sited) d c.requires.b_lt_meetings in
    record { last_lt_slots = both.1.0; item_lt_g = both.1.1 }

pub returns-in_err-ask : goal.returns-in_err-ask
unfolding erase_all
returns-in_err-ask c =
    let a = c.args in
    err-is _ c.from_residual.ensures.1
    ∙ (stops 16 _ c.ask.ensures ((rw (c.conf.ensures.grid, c.conf.ensures.words) at c.first_row_without.ensures) ∙ conf-fail c.args.diary.good c.args.diary.site.sited a.first.0 a.last.0 a.b c.requires.b_lt_meetings c.requires.last_bound) c.in_err-ask.was)

pub returns-in_err-ask-2 : goal.returns-in_err-ask-2
unfolding erase_all
returns-in_err-ask-2 c =
    let a = c.args in
    let d : c.date_of-to.result.0 < a.diary.site.settings.dates =
    rw c.date_of-to.ensures (date-lt a.diary.site.settings (good-laid c.args.diary.good).ranges sessions a.last.0 c.requires.last_bound) in
    err-is _ c.from_residual-in_err-ask-2.ensures.1
    ∙ (goes 16 c.ask.ensures ((rw (c.conf.ensures.grid, c.conf.ensures.words) at c.first_row_without.ensures) ∙ conf-fail c.args.diary.good c.args.diary.site.sited a.first.0 a.last.0 a.b c.requires.b_lt_meetings c.requires.last_bound) c.in_ok-ask.was
    (stops 17 _ c.ask-2.ensures ((rw (c.lunch.ensures.grid, c.lunch.ensures.words) at c.first_with.ensures) ∙ lunch-fail c.args.diary.good c.args.diary.site.sited c.date_of-from.result.0 c.date_of-to.result.0 a.b c.requires.b_lt_meetings d
    ∙ ap₂ (λ i j. slots_fail a.diary.site.settings (reading a.diary.words.now) HasLunch a.b 0 i j) c.date_of-from.ensures c.date_of-to.ensures) c.in_err-ask-2.was))

pub returns : goal.returns
unfolding erase_all
returns c =
    let a = c.args in
    let d : c.date_of-to.result.0 < a.diary.site.settings.dates =
    rw c.date_of-to.ensures (date-lt a.diary.site.settings (good-laid c.args.diary.good).ranges sessions a.last.0 c.requires.last_bound) in
    (goes 16 c.ask.ensures ((rw (c.conf.ensures.grid, c.conf.ensures.words) at c.first_row_without.ensures) ∙ conf-fail c.args.diary.good c.args.diary.site.sited a.first.0 a.last.0 a.b c.requires.b_lt_meetings c.requires.last_bound) c.in_ok-ask.was
    (goes 17 c.ask-2.ensures ((rw (c.lunch.ensures.grid, c.lunch.ensures.words) at c.first_with.ensures) ∙ lunch-fail c.args.diary.good c.args.diary.site.sited c.date_of-from.result.0 c.date_of-to.result.0 a.b c.requires.b_lt_meetings d
    ∙ ap₂ (λ i j. slots_fail a.diary.site.settings (reading a.diary.words.now) HasLunch a.b 0 i j) c.date_of-from.ensures c.date_of-to.ensures) c.in_ok-ask-2.was
    refl))
