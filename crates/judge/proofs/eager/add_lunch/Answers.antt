-- Questions 4 to 7 by the kind's row, question 8, and past them the others of kind 14.
-- Assumes nothing.
use mathlib.Core.Path.{refl, ◌∙◌, ap}
use native.Mathlib.Omega.{arith}
use Rattle.judge.proofs.Meanings.{answered-by}
use Rattle.judge.proofs.Together.{no-seats, too-many-seats, seats-fit}
use Rattle.model.proofs.Answers.{err-is}
use Rattle.judge.proofs.Whole.{none-no, refused-fields, ready}
use Rattle.judge.specs.Chains.{in_words}
use Rattle.model.specs.Kinds.{kind_of, Kind.add_lunch}
use Rattle.questions.proofs.Seats.{capacity-le}
use Rattle.judge.proofs.eager.add_lunch.Goals as goal

pub returns-in_err-fields : goal.returns-in_err-fields
unfolding kind_of
returns-in_err-fields c =
    err-is _ c.from_residual.ensures.1
    ∙ refused-fields c.args.diary.good c.args.r add_lunch (ap kind_of c.requires.kind_value) c.add_lunch_row.ensures refl c.fields.ensures c.in_err-fields.was

pub returns-then-r-lt1 : goal.returns-then-r-lt1
unfolding kind_of in_words
returns-then-r-lt1 c =
    c.refused.ensures
    ∙ no-seats c.args.diary.site.settings _ c.args.diary.site.grids.lunch c.args.r.a c.args.r.b c.args.r.n
    c.args.r.first c.args.r.last c.if-r-lt1.true
    ∙ answered-by c.args.diary.good c.args.diary.site.sited c.args.r add_lunch (ap kind_of c.requires.kind_value) c.add_lunch_row.ensures
    refl (none-no c.fields.ensures c.in_ok-fields.was)

pub capacity-requires : goal.capacity-requires
unfolding kind_of
capacity-requires c =
    let h = ready c.args.diary.good c.args.r add_lunch (ap kind_of c.requires.kind_value) c.add_lunch_row.ensures
    refl (none-no c.fields.ensures c.in_ok-fields.was) in
    record {
      room_lt_dining = h.a;
    }

pub returns-then-capacity-r : goal.returns-then-capacity-r
unfolding kind_of in_words
returns-then-capacity-r c =
    c.refused-then-capacity-r.ensures
    ∙ too-many-seats c.args.diary.site.settings _ c.args.diary.site.grids.lunch c.args.r.a c.args.r.b c.args.r.n
    c.args.r.first c.args.r.last c.if-r-lt1.false c.capacity.ensures
    c.if-capacity-r.true
    ∙ answered-by c.args.diary.good c.args.diary.site.sited c.args.r add_lunch (ap kind_of c.requires.kind_value) c.add_lunch_row.ensures
    refl (none-no c.fields.ensures c.in_ok-fields.was)

pub lunch_fits-requires : goal.lunch_fits-requires
unfolding kind_of
lunch_fits-requires c =
    let h = ready c.args.diary.good c.args.r add_lunch (ap kind_of c.requires.kind_value) c.add_lunch_row.ensures
    refl (none-no c.fields.ensures c.in_ok-fields.was) in
    let most = capacity-le c.args.diary.good c.args.r.a h.a in
    record {
      last_lt_dates = h.slot;
      a_lt_dining = h.a;
      b_lt_meetings = h.b;
      n_bound = omega (arith, c.if-capacity-r.false, c.capacity.ensures, most);
    }

pub returns : goal.returns
unfolding kind_of in_words
returns c =
    c.lunch_fits.ensures
    ∙ seats-fit c.args.diary.site.settings _ c.args.diary.site.grids.lunch c.args.r.a c.args.r.b c.args.r.n
    c.args.r.first c.args.r.last c.if-r-lt1.false c.capacity.ensures
    c.if-capacity-r.false
    ∙ answered-by c.args.diary.good c.args.diary.site.sited c.args.r add_lunch (ap kind_of c.requires.kind_value) c.add_lunch_row.ensures
    refl (none-no c.fields.ensures c.in_ok-fields.was)
