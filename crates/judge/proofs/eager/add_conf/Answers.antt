-- Questions 4 to 7 by the kind's row, and past them all of the kind's own.
-- Assumes nothing.
use mathlib.Core.Path.{refl, ◌∙◌, ap}
use native.Mathlib.Omega.{arith}
use Rattle.book.proofs.Goods.{good-laid}
use Rattle.book.proofs.Regions.{group-lt}
use Rattle.book.specs.declared.grid.Grids.{Grids}
use Rattle.judge.proofs.Meanings.{answered-by}
use Rattle.model.proofs.Answers.{err-is}
use Rattle.judge.proofs.Whole.{none-no, refused-fields, ready}
use Rattle.judge.specs.Chains.{in_words, conf_adds}
use Rattle.model.specs.Kinds.{kind_of, Kind.add_conf}
use Rattle.model.specs.Words.{standings, conf_pairs}
use Rattle.questions.proofs.Grounds.{ground}
use Rattle.questions.proofs.Shown.{stands-fail}
use Rattle.judge.proofs.Together.{stops, goes}
use Rattle.judge.proofs.eager.add_conf.Goals as goal

pub add_conf_row-requires : goal.add_conf_row-requires
add_conf_row-requires c = (good-laid c.args.diary.good).ranges

pub returns-in_err-fields : goal.returns-in_err-fields
unfolding kind_of
returns-in_err-fields c =
    err-is _ c.from_residual.ensures.1
    ∙ refused-fields c.args.diary.good c.args.r add_conf (ap kind_of c.requires.kind_value) c.add_conf_row.ensures refl c.fields.ensures c.in_err-fields.was

pub first_not_member-ended-requires : goal.first_not_member-ended-requires
unfolding kind_of
first_not_member-ended-requires c =
    let h = ready c.args.diary.good c.args.r add_conf (ap kind_of c.requires.kind_value) c.add_conf_row.ensures
    refl (none-no c.fields.ensures c.in_ok-fields.was) in
    let both = ground c.args.diary.good standings (c.standing.ensures.grid ∙ ap (λ (g : Grids). g.standing) c.args.diary.site.sited) h.slot
    (group-lt c.args.diary.site.settings.meetings c.args.r.b h.b) in
    record { last_lt_slots = both.1.0; v_bound = both.1.1 }

pub overflow_add-r : goal.overflow_add-r
unfolding kind_of
overflow_add-r c =
    let h = ready c.args.diary.good c.args.r add_conf (ap kind_of c.requires.kind_value) c.add_conf_row.ensures
    refl (none-no c.fields.ensures c.in_ok-fields.was) in
    omega (arith, (good-laid c.args.diary.good).ranges.meetings, h.b)

pub first_with-there-requires : goal.first_with-there-requires
unfolding kind_of
first_with-there-requires c =
    let h = ready c.args.diary.good c.args.r add_conf (ap kind_of c.requires.kind_value) c.add_conf_row.ensures
    refl (none-no c.fields.ensures c.in_ok-fields.was) in
    let both = ground c.args.diary.good conf_pairs (c.conf-pairs.ensures.grid ∙ ap (λ (g : Grids). g.conf) c.args.diary.site.sited) h.slot h.a in
    record { last_lt_slots = both.1.0; item_lt_g = both.1.1 }

pub first_without-in_use-requires : goal.first_without-in_use-requires
unfolding kind_of
first_without-in_use-requires c =
    let h = ready c.args.diary.good c.args.r add_conf (ap kind_of c.requires.kind_value) c.add_conf_row.ensures
    refl (none-no c.fields.ensures c.in_ok-fields.was) in
    let both = ground c.args.diary.good conf_pairs (c.conf-pairs.ensures.grid ∙ ap (λ (g : Grids). g.conf) c.args.diary.site.sited) h.slot h.a in
    record { last_lt_slots = both.1.0; item_lt_g = both.1.1 }

pub returns-in_err-ask : goal.returns-in_err-ask
unfolding kind_of in_words conf_adds
returns-in_err-ask c =
    let h = ready c.args.diary.good c.args.r add_conf (ap kind_of c.requires.kind_value) c.add_conf_row.ensures refl (none-no c.fields.ensures c.in_ok-fields.was) in
    err-is _ c.from_residual-in_err-ask.ensures.1
    ∙ (stops 10 _ c.ask.ensures ((rw (c.standing.ensures.grid, c.standing.ensures.words) at c.first_not_member-ended.ensures) ∙ stands-fail c.args.diary.good c.args.diary.site.sited c.args.r.first c.args.r.last c.args.r.b h.b h.slot) c.in_err-ask.was)
    ∙ answered-by c.args.diary.good c.args.diary.site.sited c.args.r add_conf (ap kind_of c.requires.kind_value) c.add_conf_row.ensures refl (none-no c.fields.ensures c.in_ok-fields.was)

pub returns-in_err-ask-2 : goal.returns-in_err-ask-2
unfolding kind_of in_words conf_adds
returns-in_err-ask-2 c =
    let h = ready c.args.diary.good c.args.r add_conf (ap kind_of c.requires.kind_value) c.add_conf_row.ensures refl (none-no c.fields.ensures c.in_ok-fields.was) in
    err-is _ c.from_residual-in_err-ask-2.ensures.1
    ∙ (goes 10 c.ask.ensures ((rw (c.standing.ensures.grid, c.standing.ensures.words) at c.first_not_member-ended.ensures) ∙ stands-fail c.args.diary.good c.args.diary.site.sited c.args.r.first c.args.r.last c.args.r.b h.b h.slot) c.in_ok-ask.was
    (stops 11 _ c.ask-2.ensures (rw (c.conf-pairs.ensures.grid, c.conf-pairs.ensures.words) at c.first_with-there.ensures) c.in_err-ask-2.was))
    ∙ answered-by c.args.diary.good c.args.diary.site.sited c.args.r add_conf (ap kind_of c.requires.kind_value) c.add_conf_row.ensures refl (none-no c.fields.ensures c.in_ok-fields.was)

pub returns-in_err-ask-3 : goal.returns-in_err-ask-3
unfolding kind_of in_words conf_adds
returns-in_err-ask-3 c =
    let h = ready c.args.diary.good c.args.r add_conf (ap kind_of c.requires.kind_value) c.add_conf_row.ensures refl (none-no c.fields.ensures c.in_ok-fields.was) in
    err-is _ c.from_residual-in_err-ask-3.ensures.1
    ∙ (goes 10 c.ask.ensures ((rw (c.standing.ensures.grid, c.standing.ensures.words) at c.first_not_member-ended.ensures) ∙ stands-fail c.args.diary.good c.args.diary.site.sited c.args.r.first c.args.r.last c.args.r.b h.b h.slot) c.in_ok-ask.was
    (goes 11 c.ask-2.ensures (rw (c.conf-pairs.ensures.grid, c.conf-pairs.ensures.words) at c.first_with-there.ensures) c.in_ok-ask-2.was
    (stops 12 _ c.ask-3.ensures (rw (c.conf-pairs.ensures.grid, c.conf-pairs.ensures.words) at c.first_without-in_use.ensures) c.in_err-ask-3.was)))
    ∙ answered-by c.args.diary.good c.args.diary.site.sited c.args.r add_conf (ap kind_of c.requires.kind_value) c.add_conf_row.ensures refl (none-no c.fields.ensures c.in_ok-fields.was)

pub returns : goal.returns
unfolding kind_of in_words conf_adds
returns c =
    let h = ready c.args.diary.good c.args.r add_conf (ap kind_of c.requires.kind_value) c.add_conf_row.ensures refl (none-no c.fields.ensures c.in_ok-fields.was) in
    (goes 10 c.ask.ensures ((rw (c.standing.ensures.grid, c.standing.ensures.words) at c.first_not_member-ended.ensures) ∙ stands-fail c.args.diary.good c.args.diary.site.sited c.args.r.first c.args.r.last c.args.r.b h.b h.slot) c.in_ok-ask.was
    (goes 11 c.ask-2.ensures (rw (c.conf-pairs.ensures.grid, c.conf-pairs.ensures.words) at c.first_with-there.ensures) c.in_ok-ask-2.was
    (goes 12 c.ask-3.ensures (rw (c.conf-pairs.ensures.grid, c.conf-pairs.ensures.words) at c.first_without-in_use.ensures) c.in_ok-ask-3.was
    refl)))
    ∙ answered-by c.args.diary.good c.args.diary.site.sited c.args.r add_conf (ap kind_of c.requires.kind_value) c.add_conf_row.ensures refl (none-no c.fields.ensures c.in_ok-fields.was)
