-- The word of the seats, times the weight of what the cell holds.
-- Assumes nothing.
use native.Mathlib.Omega.{arith}
use Rattle.book.specs.Lent.{reading}
use Rattle.queries.proofs.Weights.{weight-lt, weighed}
use Rattle.queries.proofs.rooms.seats_at.Goals as goal

pub bounds-weights-at : goal.bounds-weights-at
bounds-weights-at c =
    let a = c.args in
    let e = rw (c.lunch-lunch.ensures.grid, c.lunch-lunch.ensures.words, a.diary.site.sited) at c.cell-at.ensures in
    weight-lt a.diary.site.settings (reading a.diary.words.now) a.diary.good a.date.0 a.room a.meeting
    c.requires.date_lt_dates c.requires.room_lt_dining c.requires.meeting_lt_meetings _ e

pub overflow_mul-result : goal.overflow_mul-result
overflow_mul-result c =
    let a = c.args in
    let e = rw (c.lunch-lunch.ensures.grid, c.lunch-lunch.ensures.words, a.diary.site.sited) at c.cell-at.ensures in
    let w = rw (c.lunch-lunch.ensures.grid, c.lunch-lunch.ensures.words, a.diary.site.sited) at c.word.ensures in
    let t = weighed a.diary.site.settings (reading a.diary.words.now) a.diary.good a.date.0 a.room a.meeting
    c.requires.date_lt_dates c.requires.room_lt_dining c.requires.meeting_lt_meetings _ _ w e in
    rw c.requires.weighed (omega (arith, t.few))

pub returns : goal.returns
returns c =
    let a = c.args in
    let e = rw (c.lunch-lunch.ensures.grid, c.lunch-lunch.ensures.words, a.diary.site.sited) at c.cell-at.ensures in
    let w = rw (c.lunch-lunch.ensures.grid, c.lunch-lunch.ensures.words, a.diary.site.sited) at c.word.ensures in
    rw c.requires.weighed (weighed a.diary.site.settings (reading a.diary.words.now) a.diary.good a.date.0 a.room a.meeting
    c.requires.date_lt_dates c.requires.room_lt_dining c.requires.meeting_lt_meetings _ _ w e)
