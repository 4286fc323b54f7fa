-- The questions of kind 12, one after the other.
-- Assumes nothing.
use mathlib.Core.Path.{refl, ◌∙◌, ap}
use native.Mathlib.Omega.{arith}
use Rattle.book.specs.declared.grid.Grids.{Grids}
use Rattle.book.proofs.Goods.{good-laid}
use Rattle.model.specs.Words.{standings, conf_pairs}
use Rattle.book.proofs.Regions.{group-lt}
use Rattle.questions.proofs.Shown.{stands-fail}
use Rattle.questions.proofs.Grounds.{ground}
use Rattle.judge.specs.Chains.{conf_adds}
use Rattle.judge.proofs.Together.{stops, goes}
use Rattle.model.proofs.Answers.{err-is}
use Rattle.judge.proofs.answers.add_conf.Goals as goal

pub first_not_member-ended-requires : goal.first_not_member-ended-requires
first_not_member-ended-requires c =
    let a = c.args in
    let both = ground c.args.diary.good standings (c.standing.ensures.grid ∙ ap (λ (g : Grids). g.standing) c.args.diary.site.sited) c.requires.last_bound (group-lt a.diary.site.settings.meetings a.b c.requires.b_lt_meetings) in
    record { last_lt_slots = both.1.0; v_bound = both.1.1 }

pub overflow_add-b : goal.overflow_add-b
overflow_add-b c =
    omega (arith, (good-laid c.args.diary.good).ranges.meetings, c.requires.b_lt_meetings)

pub first_with-there-requires : goal.first_with-there-requires
first_with-there-requires c = let both = ground c.args.diary.good conf_pairs (c.conf-pairs.ensures.grid ∙ ap (λ (g : Grids). g.conf) c.args.diary.site.sited) c.requires.last_bound c.requires.a_lt_rooms in
    record { last_lt_slots = both.1.0; item_lt_g = both.1.1 }

pub first_without-requires : goal.first_without-requires
first_without-requires c = let both = ground c.args.diary.good conf_pairs (c.conf-pairs.ensures.grid ∙ ap (λ (g : Grids). g.conf) c.args.diary.site.sited) c.requires.last_bound c.requires.a_lt_rooms in
    record { last_lt_slots = both.1.0; item_lt_g = both.1.1 }

pub returns-in_err-ask : goal.returns-in_err-ask
unfolding conf_adds
returns-in_err-ask c =
    let a = c.args in
    err-is _ c.from_residual.ensures.1
    ∙ (stops 10 _ c.ask.ensures ((rw (c.standing.ensures.grid, c.standing.ensures.words) at c.first_not_member-ended.ensures) ∙ stands-fail c.args.diary.good c.args.diary.site.sited a.first.0 a.last.0 a.b c.requires.b_lt_meetings c.requires.last_bound) c.in_err-ask.was)

pub returns-in_err-ask-2 : goal.returns-in_err-ask-2
unfolding conf_adds
returns-in_err-ask-2 c =
    let a = c.args in
    err-is _ c.from_residual-in_err-ask-2.ensures.1
    ∙ (goes 10 c.ask.ensures ((rw (c.standing.ensures.grid, c.standing.ensures.words) at c.first_not_member-ended.ensures) ∙ stands-fail c.args.diary.good c.args.diary.site.sited a.first.0 a.last.0 a.b c.requires.b_lt_meetings c.requires.last_bound) c.in_ok-ask.was
    (stops 11 _ c.ask-2.ensures (rw (c.conf-pairs.ensures.grid, c.conf-pairs.ensures.words) at c.first_with-there.ensures) c.in_err-ask-2.was))

pub returns-in_err-ask-3 : goal.returns-in_err-ask-3
unfolding conf_adds
returns-in_err-ask-3 c =
    let a = c.args in
    err-is _ c.from_residual-in_err-ask-3.ensures.1
    ∙ (goes 10 c.ask.ensures ((rw (c.standing.ensures.grid, c.standing.ensures.words) at c.first_not_member-ended.ensures) ∙ stands-fail c.args.diary.good c.args.diary.site.sited a.first.0 a.last.0 a.b c.requires.b_lt_meetings c.requires.last_bound) c.in_ok-ask.was
    (goes 11 c.ask-2.ensures (rw (c.conf-pairs.ensures.grid, c.conf-pairs.ensures.words) at c.first_with-there.ensures) c.in_ok-ask-2.was
    (stops 12 _ c.ask-3.ensures (rw (c.conf-pairs.ensures.grid, c.conf-pairs.ensures.words) at c.first_without.ensures) c.in_err-ask-3.was)))

pub returns : goal.returns
unfolding conf_adds
returns c =
    let a = c.args in
    (goes 10 c.ask.ensures ((rw (c.standing.ensures.grid, c.standing.ensures.words) at c.first_not_member-ended.ensures) ∙ stands-fail c.args.diary.good c.args.diary.site.sited a.first.0 a.last.0 a.b c.requires.b_lt_meetings c.requires.last_bound) c.in_ok-ask.was
    (goes 11 c.ask-2.ensures (rw (c.conf-pairs.ensures.grid, c.conf-pairs.ensures.words) at c.first_with-there.ensures) c.in_ok-ask-2.was
    (goes 12 c.ask-3.ensures (rw (c.conf-pairs.ensures.grid, c.conf-pairs.ensures.words) at c.first_without.ensures) c.in_ok-ask-3.was
    refl)))
