-- None without leave, and else those in the date's row of hotel rooms, in its sessions and at its times.
-- Assumes nothing.
use Rattle.book.specs.Lent.{reading}
use mathlib.Core.Path.{refl, sym, ◌∙◌}
use native.Mathlib.Omega.{arith}
use Rattle.model.specs.Kinds.{sessions, times}
use Rattle.units.proofs.Slots.{all-sessions}
use Rattle.book.proofs.Goods.{good-laid}
use Rattle.queries.proofs.Runs.{run-order, bookings-is}
use Rattle.queries.proofs.Spans.{bookings-none-on, bookings-few}
use Rattle.queries.proofs.bookings.entries_on.Goals as goal

pub returns-then-not-on_leave : goal.returns-then-not-on_leave
returns-then-not-on_leave c =
    sym (bookings-none-on c.args.diary.good c.args.visitor c.args.date.0 (sym c.on_leave.ensures ∙ c.if-not-on_leave.true))

pub on_dates-sessions-requires-clause-ranges : goal.on_dates-sessions-requires-clause-ranges
on_dates-sessions-requires-clause-ranges c = (good-laid c.args.diary.good).ranges

pub on_dates-times-requires-clause-ranges : goal.on_dates-times-requires-clause-ranges
on_dates-times-requires-clause-ranges c = (good-laid c.args.diary.good).ranges

pub overflow_add-visitor : goal.overflow_add-visitor
overflow_add-visitor c = omega (arith, (good-laid c.args.diary.good).ranges.visitors, c.requires.visitor_lt_visitors)

pub column_count-meetings-requires : goal.column_count-meetings-requires
column_count-meetings-requires c = record {
  item_lt_g = rw (c.attend.ensures.grid, c.args.diary.site.sited) c.requires.visitor_lt_visitors;
  lo_le_hi = rw (c.attend.ensures.grid, c.args.diary.site.sited) (
    run-order c.args.diary.site.settings sessions _ _ _ _ c.on_dates-sessions.ensures (omega arith),
    c.on_dates-sessions.ensures.ends.most,
    omega
        (arith, all-sessions c.args.diary.site.settings (good-laid c.args.diary.good).ranges),
  );
}

pub overflow_add-visitor-2 : goal.overflow_add-visitor-2
overflow_add-visitor-2 c =
    omega (arith, (good-laid c.args.diary.good).ranges.visitors, c.requires.visitor_lt_visitors)

pub rows_count-rides-requires : goal.rows_count-rides-requires
rows_count-rides-requires c = record {
  width_value = rw (c.ride.ensures.grid, c.args.diary.site.sited) refl;
  lo_le_hi = rw (c.ride.ensures.grid, c.args.diary.site.sited) (run-order c.args.diary.site.settings times _ _ _ _ c.on_dates-times.ensures (omega arith), c.on_dates-times.ensures.ends.most);
}

pub overflow_add-result : goal.overflow_add-result
overflow_add-result c =
    let a = c.args in
    let e1 = rw (c.hotel.ensures.grid, c.hotel.ensures.words, c.args.diary.site.sited) at c.row_count-nights.ensures in
    let e2 = rw (c.attend.ensures.grid, c.attend.ensures.words, c.args.diary.site.sited) at c.column_count-meetings.ensures in
    let e3 = rw (c.ride.ensures.grid, c.ride.ensures.words, c.args.diary.site.sited) at c.rows_count-rides.ensures in
    let k = bookings-is a.diary.site.settings (reading a.diary.words.now) c.args.diary.good a.visitor a.date.0 c.requires.visitor_lt_visitors c.requires.date_lt_dates _ _ _ _
    c.on_dates-sessions.ensures c.on_dates-times.ensures in
    omega (arith, e1, e2, e3, k, bookings-few c.args.diary.good a.visitor a.date.0 a.date.0)

pub overflow_add-result-2 : goal.overflow_add-result-2
overflow_add-result-2 c =
    let a = c.args in
    let e1 = rw (c.hotel.ensures.grid, c.hotel.ensures.words, c.args.diary.site.sited) at c.row_count-nights.ensures in
    let e2 = rw (c.attend.ensures.grid, c.attend.ensures.words, c.args.diary.site.sited) at c.column_count-meetings.ensures in
    let e3 = rw (c.ride.ensures.grid, c.ride.ensures.words, c.args.diary.site.sited) at c.rows_count-rides.ensures in
    let k = bookings-is a.diary.site.settings (reading a.diary.words.now) c.args.diary.good a.visitor a.date.0 c.requires.visitor_lt_visitors c.requires.date_lt_dates _ _ _ _
    c.on_dates-sessions.ensures c.on_dates-times.ensures in
    omega (arith, e1, e2, e3, k, bookings-few c.args.diary.good a.visitor a.date.0 a.date.0)

pub returns : goal.returns
returns c =
    let a = c.args in
    let e1 = rw (c.hotel.ensures.grid, c.hotel.ensures.words, c.args.diary.site.sited) at c.row_count-nights.ensures in
    let e2 = rw (c.attend.ensures.grid, c.attend.ensures.words, c.args.diary.site.sited) at c.column_count-meetings.ensures in
    let e3 = rw (c.ride.ensures.grid, c.ride.ensures.words, c.args.diary.site.sited) at c.rows_count-rides.ensures in
    let k = bookings-is a.diary.site.settings (reading a.diary.words.now) c.args.diary.good a.visitor a.date.0 c.requires.visitor_lt_visitors c.requires.date_lt_dates _ _ _ _
    c.on_dates-sessions.ensures c.on_dates-times.ensures in
    omega (arith, e1, e2, e3, k)
