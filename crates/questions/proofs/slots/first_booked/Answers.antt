-- The visitor has no entry on a date before `from`.
-- Assumes nothing.
use Prim.Native.Nat.{ℕ, suc}
use mathlib.Core.Path.{sym, ◌∙◌}
use mathlib.Core.Bool.{Bool}
use native.Mathlib.Omega.{arith}
use borrow.Author.Tests.{not-false, not-true}
use Rattle.model.specs.Reading.{state_of}
use Rattle.model.proofs.Search.{failing-at, none-failing, passed-more}
use Rattle.book.specs.Lent.{reading}
use Rattle.book.proofs.Goods.{good-laid}
use Rattle.queries.proofs.Found.{found-in, found-past, found-none}
use Rattle.questions.specs.Asked.{holds_in}
use Rattle.questions.proofs.Booked.{none-past}
use Rattle.questions.proofs.slots.first_booked.Goals as goal

pub loop-d-init : goal.loop-d-init
loop-d-init c = (omega arith, λ i l h. absurd (omega (arith, l, h)))

pub has_bookings-requires-clause-date_lt_dates : goal.has_bookings-requires-clause-date_lt_dates
has_bookings-requires-clause-date_lt_dates c =
    let leave : ℕ → Bool = λ i. (state_of (reading c.args.diary.words.now)).leave i c.args.visitor in
    let f = found-in leave c.loop-d.from.0 c.args.last.0 c.first_on_leave.ensures c.in-Some.is in
    omega (arith, f.1, c.requires.last_lt_dates)

pub after-from-requires : goal.after-from-requires
after-from-requires c =
    let leave : ℕ → Bool = λ i. (state_of (reading c.args.diary.words.now)).leave i c.args.visitor in
    let f = found-in leave c.loop-d.from.0 c.args.last.0 c.first_on_leave.ensures c.in-Some.is in
    omega (arith, f.1, c.requires.last_lt_dates, (good-laid c.args.diary.good).ranges.dates)

pub loop-d-smaller : goal.loop-d-smaller
loop-d-smaller c =
    let leave : ℕ → Bool = λ i. (state_of (reading c.args.diary.words.now)).leave i c.args.visitor in
    let f = found-in leave c.loop-d.from.0 c.args.last.0 c.first_on_leave.ensures c.in-Some.is in
    omega (arith, f, c.after-from.ensures)

pub loop-d-preserved : goal.loop-d-preserved
unfolding holds_in
loop-d-preserved c =
    let leave : ℕ → Bool = λ i. (state_of (reading c.args.diary.words.now)).leave i c.args.visitor in
    let f = found-in leave c.loop-d.from.0 c.args.last.0 c.first_on_leave.ensures c.in-Some.is in
    let past = none-past c.args.diary.good c.args.visitor c.args.first.0 c.loop-d.invariant.1
    (found-past leave c.loop-d.from.0 c.args.last.0 c.first_on_leave.ensures c.in-Some.is) in
    let none = not-false _ (sym c.has_bookings.ensures ∙ c.if-has_bookings.false) in
    rw c.after-from.ensures (omega (arith, f, c.loop-d.invariant.0), passed-more _ c.args.first.0 c.in-Some.d past none)

pub returns-then-has_bookings : goal.returns-then-has_bookings
unfolding holds_in
returns-then-has_bookings c =
    let leave : ℕ → Bool = λ i. (state_of (reading c.args.diary.words.now)).leave i c.args.visitor in
    let f = found-in leave c.loop-d.from.0 c.args.last.0 c.first_on_leave.ensures c.in-Some.is in
    let past = none-past c.args.diary.good c.args.visitor c.args.first.0 c.loop-d.invariant.1
    (found-past leave c.loop-d.from.0 c.args.last.0 c.first_on_leave.ensures c.in-Some.is) in
    let some = not-true _ (sym c.has_bookings.ensures ∙ c.if-has_bookings.true) in
    sym (failing-at _ c.args.first.0 c.args.last.0 c.in-Some.d (omega (arith, f, c.loop-d.invariant.0)) f.1 some past)

pub returns : goal.returns
returns c =
    let leave : ℕ → Bool = λ i. (state_of (reading c.args.diary.words.now)).leave i c.args.visitor in
    let away = found-none leave c.loop-d.from.0 c.args.last.0 c.first_on_leave.ensures c.in_default.is in
    let past = none-past c.args.diary.good c.args.visitor c.args.first.0 {e = suc c.args.last.0} c.loop-d.invariant.1 (λ i a k. away i a (omega (arith, k))) in
    sym (none-failing _ c.args.first.0 c.args.last.0 (λ i l h. past i l (omega (arith, h))))
