-- Questions 4 to 7 by the kind's row, and past them all of the kind's own.
-- Assumes nothing.
use mathlib.Core.Path.{refl, ◌∙◌, ap}
use Rattle.book.proofs.Goods.{good-laid}
use Rattle.book.proofs.Regions.{group-lt}
use Rattle.book.specs.declared.grid.Grids.{Grids}
use Rattle.judge.proofs.Meanings.{answered-by}
use Rattle.model.proofs.Answers.{err-is}
use Rattle.judge.proofs.Whole.{none-no, refused-fields, ready}
use Rattle.judge.specs.Chains.{in_words, standing_ends}
use Rattle.model.specs.Kinds.{kind_of, Kind.end_standing}
use Rattle.model.specs.Words.{standings}
use Rattle.questions.proofs.Grounds.{ground}
use Rattle.questions.proofs.Shown.{stands-fail}
use Rattle.judge.proofs.Together.{stops, goes}
use Rattle.judge.proofs.eager.end_standing.Goals as goal

pub standing_row-requires : goal.standing_row-requires
standing_row-requires c = (good-laid c.args.diary.good).ranges

pub returns-in_err-fields : goal.returns-in_err-fields
unfolding kind_of
returns-in_err-fields c =
    err-is _ c.from_residual.ensures.1
    ∙ refused-fields c.args.diary.good c.args.r end_standing (ap kind_of c.requires.kind_value) c.standing_row.ensures refl c.fields.ensures c.in_err-fields.was

pub first_held-held-requires : goal.first_held-held-requires
unfolding kind_of
first_held-held-requires c =
    let h = ready c.args.diary.good c.args.r end_standing (ap kind_of c.requires.kind_value) c.standing_row.ensures
    refl (none-no c.fields.ensures c.in_ok-fields.was) in
    record {
      last_bound = h.slot;
      meeting_lt_meetings = h.a;
    }

pub first_not_member-ended-requires : goal.first_not_member-ended-requires
unfolding kind_of
first_not_member-ended-requires c =
    let h = ready c.args.diary.good c.args.r end_standing (ap kind_of c.requires.kind_value) c.standing_row.ensures
    refl (none-no c.fields.ensures c.in_ok-fields.was) in
    let both = ground c.args.diary.good standings (c.standing.ensures.grid ∙ ap (λ (g : Grids). g.standing) c.args.diary.site.sited) h.slot
    (group-lt c.args.diary.site.settings.meetings c.args.r.a h.a) in
    record { last_lt_slots = both.1.0; v_bound = both.1.1 }

pub returns-in_err-ask : goal.returns-in_err-ask
unfolding kind_of in_words standing_ends
returns-in_err-ask c =
    let h = ready c.args.diary.good c.args.r end_standing (ap kind_of c.requires.kind_value) c.standing_row.ensures refl (none-no c.fields.ensures c.in_ok-fields.was) in
    err-is _ c.from_residual-in_err-ask.ensures.1
    ∙ (stops 19 _ c.ask.ensures c.first_held-held.ensures c.in_err-ask.was)
    ∙ answered-by c.args.diary.good c.args.diary.site.sited c.args.r end_standing (ap kind_of c.requires.kind_value) c.standing_row.ensures refl (none-no c.fields.ensures c.in_ok-fields.was)

pub returns-in_err-ask-2 : goal.returns-in_err-ask-2
unfolding kind_of in_words standing_ends
returns-in_err-ask-2 c =
    let h = ready c.args.diary.good c.args.r end_standing (ap kind_of c.requires.kind_value) c.standing_row.ensures refl (none-no c.fields.ensures c.in_ok-fields.was) in
    err-is _ c.from_residual-in_err-ask-2.ensures.1
    ∙ (goes 19 c.ask.ensures c.first_held-held.ensures c.in_ok-ask.was
    (stops 20 _ c.ask-2.ensures ((rw (c.standing.ensures.grid, c.standing.ensures.words) at c.first_not_member-ended.ensures) ∙ stands-fail c.args.diary.good c.args.diary.site.sited c.args.r.first c.args.r.last c.args.r.a h.a h.slot) c.in_err-ask-2.was))
    ∙ answered-by c.args.diary.good c.args.diary.site.sited c.args.r end_standing (ap kind_of c.requires.kind_value) c.standing_row.ensures refl (none-no c.fields.ensures c.in_ok-fields.was)

pub returns : goal.returns
unfolding kind_of in_words standing_ends
returns c =
    let h = ready c.args.diary.good c.args.r end_standing (ap kind_of c.requires.kind_value) c.standing_row.ensures refl (none-no c.fields.ensures c.in_ok-fields.was) in
    (goes 19 c.ask.ensures c.first_held-held.ensures c.in_ok-ask.was
    (goes 20 c.ask-2.ensures ((rw (c.standing.ensures.grid, c.standing.ensures.words) at c.first_not_member-ended.ensures) ∙ stands-fail c.args.diary.good c.args.diary.site.sited c.args.r.first c.args.r.last c.args.r.a h.a h.slot) c.in_ok-ask-2.was
    refl))
    ∙ answered-by c.args.diary.good c.args.diary.site.sited c.args.r end_standing (ap kind_of c.requires.kind_value) c.standing_row.ensures refl (none-no c.fields.ensures c.in_ok-fields.was)
