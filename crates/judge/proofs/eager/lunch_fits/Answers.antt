-- The questions of kind 14 from 10 on.
-- Assumes nothing.
use mathlib.Core.Path.{refl, ◌∙◌, ap}
use native.Mathlib.Omega.{arith}
use Rattle.book.proofs.Goods.{good-laid}
use Rattle.book.specs.declared.grid.Grids.{Grids}
use Rattle.judge.specs.Chains.{lunch_adds}
use Rattle.model.specs.Words.{lunch_triples}
use Rattle.questions.proofs.Grounds.{ground}
use Rattle.questions.specs.Asked.{holds_in}
use Rattle.judge.proofs.Together.{stops, goes}
use Rattle.model.proofs.Answers.{err-is}
use Rattle.judge.proofs.eager.lunch_fits.Goals as goal

pub overflow_add-a : goal.overflow_add-a
overflow_add-a c =
    omega (arith, (good-laid c.args.diary.good).ranges.dining, c.requires.a_lt_dining)

pub first_with-there-requires : goal.first_with-there-requires
first_with-there-requires c = let both = ground c.args.diary.good lunch_triples (c.lunch-triples.ensures.grid ∙ ap (λ (g : Grids). g.lunch) c.args.diary.site.sited) c.requires.last_lt_dates c.requires.b_lt_meetings in
    record { last_lt_slots = both.1.0; item_lt_g = both.1.1 }

pub first_without-elsewhere-requires : goal.first_without-elsewhere-requires
first_without-elsewhere-requires c = let both = ground c.args.diary.good lunch_triples (c.lunch-triples.ensures.grid ∙ ap (λ (g : Grids). g.lunch) c.args.diary.site.sited) c.requires.last_lt_dates c.requires.b_lt_meetings in
    record { last_lt_slots = both.1.0; item_lt_g = both.1.1 }

pub returns-in_err-ask : goal.returns-in_err-ask
unfolding lunch_adds holds_in
returns-in_err-ask c =
    err-is _ c.from_residual.ensures.1
    ∙ (stops 10 _ c.ask.ensures c.first_not_standing-ended.ensures c.in_err-ask.was)

pub returns-in_err-ask-2 : goal.returns-in_err-ask-2
unfolding lunch_adds holds_in
returns-in_err-ask-2 c =
    err-is _ c.from_residual-in_err-ask-2.ensures.1
    ∙ (goes 10 c.ask.ensures c.first_not_standing-ended.ensures c.in_ok-ask.was
    (stops 11 _ c.ask-2.ensures (rw (c.lunch-triples.ensures.grid, c.lunch-triples.ensures.words) at c.first_with-there.ensures) c.in_err-ask-2.was))

pub returns-in_err-ask-3 : goal.returns-in_err-ask-3
unfolding lunch_adds holds_in
returns-in_err-ask-3 c =
    err-is _ c.from_residual-in_err-ask-3.ensures.1
    ∙ (goes 10 c.ask.ensures c.first_not_standing-ended.ensures c.in_ok-ask.was
    (goes 11 c.ask-2.ensures (rw (c.lunch-triples.ensures.grid, c.lunch-triples.ensures.words) at c.first_with-there.ensures) c.in_ok-ask-2.was
    (stops 13 _ c.ask-3.ensures (rw (c.lunch-triples.ensures.grid, c.lunch-triples.ensures.words) at c.first_without-elsewhere.ensures) c.in_err-ask-3.was)))

pub returns-in_err-ask-4 : goal.returns-in_err-ask-4
unfolding lunch_adds holds_in
returns-in_err-ask-4 c =
    err-is _ c.from_residual-in_err-ask-4.ensures.1
    ∙ (goes 10 c.ask.ensures c.first_not_standing-ended.ensures c.in_ok-ask.was
    (goes 11 c.ask-2.ensures (rw (c.lunch-triples.ensures.grid, c.lunch-triples.ensures.words) at c.first_with-there.ensures) c.in_ok-ask-2.was
    (goes 13 c.ask-3.ensures (rw (c.lunch-triples.ensures.grid, c.lunch-triples.ensures.words) at c.first_without-elsewhere.ensures) c.in_ok-ask-3.was
    (stops 14 _ c.ask-4.ensures c.first_over-over.ensures c.in_err-ask-4.was))))

pub returns : goal.returns
unfolding lunch_adds holds_in
returns c =
    (goes 10 c.ask.ensures c.first_not_standing-ended.ensures c.in_ok-ask.was
    (goes 11 c.ask-2.ensures (rw (c.lunch-triples.ensures.grid, c.lunch-triples.ensures.words) at c.first_with-there.ensures) c.in_ok-ask-2.was
    (goes 13 c.ask-3.ensures (rw (c.lunch-triples.ensures.grid, c.lunch-triples.ensures.words) at c.first_without-elsewhere.ensures) c.in_ok-ask-3.was
    (goes 14 c.ask-4.ensures c.first_over-over.ensures c.in_ok-ask-4.was
    refl))))
