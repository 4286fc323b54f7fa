-- None without leave; else a meeting, a hotel room or a ride is one, and there is no other.
-- Assumes nothing.
use Rattle.book.specs.Lent.{reading}
use Prim.Native.Nat.{ℕ, ◌+◌}
use mathlib.Core.Path.{◌≡◌, refl, sym, ◌∙◌, ap}
use mathlib.Core.Bool.{true, not, false≢true}
use native.Mathlib.Omega.{arith}
use lib.Dec.{eqb}
use borrow.Author.Tests.{eqb-true, eq-eqb, ne_eqb, not-false}
use Rattle.model.specs.Kinds.{times}
use Rattle.model.specs.Words.{attend_cells, ride_cells}
use Rattle.model.specs.Questions.{bookings}
use Rattle.model.specs.Reading.{state_of}
use Rattle.book.specs.Grids.{grid_of}
use Rattle.book.specs.Rows.{rows_count}
use Rattle.book.proofs.Goods.{good-laid}
use Rattle.queries.specs.Shown.{column_count}
use Rattle.queries.proofs.Runs.{run-order, bookings-is, nights-le, seated-le}
use Rattle.queries.proofs.Spans.{bookings-none-on}
use Rattle.queries.proofs.bookings.has_bookings.Goals as goal

pub returns-then-not-on_leave : goal.returns-then-not-on_leave
returns-then-not-on_leave c =
    sym (ap not (eq-eqb _ 0 (bookings-none-on c.args.diary.good c.args.visitor c.args.date.0
    (sym c.on_leave.ensures ∙ c.if-not-on_leave.true))))

pub on_dates-sessions-requires-clause-ranges : goal.on_dates-sessions-requires-clause-ranges
on_dates-sessions-requires-clause-ranges c = (good-laid c.args.diary.good).ranges

pub column_has-requires : goal.column_has-requires
column_has-requires c = record {
  item_lt_g = rw (c.attend.ensures.grid, c.args.diary.site.sited) c.requires.visitor_lt_visitors;
  hi_le_slots = rw (c.attend.ensures.grid, c.args.diary.site.sited) c.on_dates-sessions.ensures.ends.most;
}

pub returns-then-column_has : goal.returns-then-column_has
returns-then-column_has c =
    let a = c.args in
    let n : ℕ = column_count (grid_of a.diary.site.settings attend_cells) (reading a.diary.words.now) a.visitor c.on_dates-sessions.result.from.0 c.on_dates-sessions.result.to.0 in
    let e : not (eqb n 0) ≡ true = sym (rw (c.attend.ensures.grid, c.attend.ensures.words, c.args.diary.site.sited) at c.column_has.ensures) ∙ c.if-column_has.true in
    let k = seated-le a.diary.site.settings (reading a.diary.words.now) c.args.diary.good a.visitor a.date.0 c.requires.visitor_lt_visitors c.requires.date_lt_dates _ _ c.on_dates-sessions.ensures in
    sym (ap not (ne_eqb (bookings (state_of (reading a.diary.words.now)) a.visitor a.date.0 a.date.0) 0
    (λ z. false≢true (sym (ap not (eq-eqb n 0 (omega (arith, k, z)))) ∙ e))))

pub overflow_add-visitor : goal.overflow_add-visitor
overflow_add-visitor c =
    omega (arith, (good-laid c.args.diary.good).ranges.visitors, c.requires.visitor_lt_visitors)

pub returns-then-row_count-ne0 : goal.returns-then-row_count-ne0
returns-then-row_count-ne0 c =
    let a = c.args in
    let e = rw (c.hotel.ensures.grid, c.hotel.ensures.words, c.args.diary.site.sited) at c.row_count.ensures in
    let k = nights-le a.diary.site.settings (reading a.diary.words.now) c.args.diary.good a.visitor a.date.0 c.requires.visitor_lt_visitors c.requires.date_lt_dates in
    sym (ap not (ne_eqb (bookings (state_of (reading a.diary.words.now)) a.visitor a.date.0 a.date.0) 0
    (λ z. c.if-row_count-ne0.true (omega (arith, e, k, z)))))

pub on_dates-times-requires-clause-ranges : goal.on_dates-times-requires-clause-ranges
on_dates-times-requires-clause-ranges c = (good-laid c.args.diary.good).ranges

pub overflow_add-visitor-2 : goal.overflow_add-visitor-2
overflow_add-visitor-2 c =
    omega (arith, (good-laid c.args.diary.good).ranges.visitors, c.requires.visitor_lt_visitors)

pub rows_have-requires : goal.rows_have-requires
rows_have-requires c = record {
  width_value = rw (c.ride.ensures.grid, c.args.diary.site.sited) refl;
  lo_le_hi = rw (c.ride.ensures.grid, c.args.diary.site.sited) (run-order c.args.diary.site.settings times _ _ _ _ c.on_dates-times.ensures (omega arith), c.on_dates-times.ensures.ends.most);
}

pub returns : goal.returns
returns c =
    let a = c.args in
    let e1 = rw (c.hotel.ensures.grid, c.hotel.ensures.words, c.args.diary.site.sited) at c.row_count.ensures in
    let n : ℕ = column_count (grid_of a.diary.site.settings attend_cells) (reading a.diary.words.now) a.visitor c.on_dates-sessions.result.from.0 c.on_dates-sessions.result.to.0 in
    let e2 : n ≡ 0 = eqb-true n 0 (not-false _
    (sym (rw (c.attend.ensures.grid, c.attend.ensures.words, c.args.diary.site.sited) at c.column_has.ensures) ∙ c.if-column_has.false)) in
    let e3 = rw (c.ride.ensures.grid, c.ride.ensures.words, c.args.diary.site.sited) at c.rows_have.ensures in
    let k = bookings-is a.diary.site.settings (reading a.diary.words.now) c.args.diary.good a.visitor a.date.0 c.requires.visitor_lt_visitors c.requires.date_lt_dates _ _ _ _
    c.on_dates-sessions.ensures c.on_dates-times.ensures in
    let e : rows_count (grid_of a.diary.site.settings ride_cells) (reading a.diary.words.now) (a.visitor + 1) c.on_dates-times.result.from.0 c.on_dates-times.result.to.0
    ≡ bookings (state_of (reading a.diary.words.now)) a.visitor a.date.0 a.date.0
    = omega (arith, e1, e2, k, c.if-row_count-ne0.false) in
    e3 ∙ ap (λ (n : ℕ). not (eqb n 0)) e
