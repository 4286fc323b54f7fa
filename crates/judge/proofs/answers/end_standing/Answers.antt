-- The questions of kind 9, one after the other.
-- Assumes nothing.
use mathlib.Core.Path.{refl, ◌∙◌, ap}
use Rattle.book.specs.declared.grid.Grids.{Grids}
use Rattle.book.proofs.Regions.{group-lt}
use Rattle.model.specs.Words.{standings}
use Rattle.questions.proofs.Shown.{stands-fail}
use Rattle.questions.proofs.Grounds.{ground}
use Rattle.judge.specs.Chains.{standing_ends}
use Rattle.judge.proofs.Together.{stops, goes}
use Rattle.model.proofs.Answers.{err-is}
use Rattle.judge.proofs.answers.end_standing.Goals as goal

pub first_not_member-missing-requires : goal.first_not_member-missing-requires
first_not_member-missing-requires c =
    let a = c.args in
    let both = ground c.args.diary.good standings (c.standing.ensures.grid ∙ ap (λ (g : Grids). g.standing) c.args.diary.site.sited) c.requires.last_bound (group-lt a.diary.site.settings.meetings a.a c.requires.a_lt_meetings) in
    record { last_lt_slots = both.1.0; v_bound = both.1.1 }

pub returns-in_err-ask : goal.returns-in_err-ask
unfolding standing_ends
returns-in_err-ask c =
    let a = c.args in
    err-is _ c.from_residual.ensures.1
    ∙ (stops 19 _ c.ask.ensures c.first_held.ensures c.in_err-ask.was)

pub returns-in_err-ask-2 : goal.returns-in_err-ask-2
unfolding standing_ends
returns-in_err-ask-2 c =
    let a = c.args in
    err-is _ c.from_residual-in_err-ask-2.ensures.1
    ∙ (goes 19 c.ask.ensures c.first_held.ensures c.in_ok-ask.was
    (stops 20 _ c.ask-2.ensures ((rw (c.standing.ensures.grid, c.standing.ensures.words) at c.first_not_member-missing.ensures) ∙ stands-fail c.args.diary.good c.args.diary.site.sited a.first.0 a.last.0 a.a c.requires.a_lt_meetings c.requires.last_bound) c.in_err-ask-2.was))

pub returns : goal.returns
unfolding standing_ends
returns c =
    let a = c.args in
    (goes 19 c.ask.ensures c.first_held.ensures c.in_ok-ask.was
    (goes 20 c.ask-2.ensures ((rw (c.standing.ensures.grid, c.standing.ensures.words) at c.first_not_member-missing.ensures) ∙ stands-fail c.args.diary.good c.args.diary.site.sited a.first.0 a.last.0 a.a c.requires.a_lt_meetings c.requires.last_bound) c.in_ok-ask-2.was
    refl))
