-- The seats of the meetings, added up.
-- Assumes nothing.
use Prim.Native.Nat.{ℕ, ◌≤◌}
use mathlib.Core.Path.{sym, ◌∙◌, ap}
use native.Mathlib.Omega.{arith}
use Rattle.std.proofs.Common.{rules}
use Rattle.std.specs.List.{range_with_len}
use Rattle.std.proofs.lemmas.Iterator.{YieldsList-from_range, YieldsList-from_map}
use Rattle.std.proofs.lemmas.Iterator.Consumers.{sum_by_from_yields_List, fits_by_from_yields_list}
use Rattle.model.specs.Bounded.{sum}
use Rattle.model.specs.State.{State, seats_of, reserved}
use Rattle.model.specs.Reading.{state_of, read_state}
use Rattle.book.specs.Lent.{reading}
use Rattle.book.proofs.Goods.{good-laid, good-state}
use Rattle.model.proofs.Sums.{sum-most}
use Rattle.queries.proofs.Ranges.{sum-range}
use Rattle.queries.proofs.Shows.{seats-most}
use Rattle.queries.proofs.rooms.reserved.Goals as goal

pub bounds-weights-room : goal.bounds-weights-room
bounds-weights-room c = omega (arith, (good-laid c.args.diary.good).ranges.dining)

pub sum-requires-clause-fits : goal.sum-requires-clause-fits
sum-requires-clause-fits c =
    let a = c.args in
    let n = a.diary.site.settings.meetings in
    let x = state_of (reading a.diary.words.now) in
    let f : ℕ → ℕ = λ m. seats_of (x.lunch a.date.0 a.room m) in
    let few : (m : ℕ) → f m ≤ 1000 = λ m. seats-most a.diary.site.settings (reading a.diary.words.now) a.diary.good a.date.0 a.room m c.requires.room_lt_dining in
    fits_by_from_yields_list f (range_with_len 0 n) c.map.result _
    (YieldsList-from_map _ f (YieldsList-from_range 0 n n c.map.ensures.source (omega arith)) c.map.ensures.closure (λ x r q k. search rules))
    (omega (arith, sum-range f 0 n, sum-most f 1000 0 n few, (good-laid a.diary.good).ranges.meetings))

pub returns : goal.returns
unfolding reserved read_state
returns c =
    let a = c.args in
    let n = a.diary.site.settings.meetings in
    let f : ℕ → ℕ = λ m. seats_of ((state_of (reading a.diary.words.now)).lunch a.date.0 a.room m) in
    sum_by_from_yields_List f (range_with_len 0 n) c.map.result _ c.sum.ensures.ran
    (YieldsList-from_map _ f (YieldsList-from_range 0 n n c.map.ensures.source (omega arith)) c.map.ensures.closure (λ x r q k. search rules))
    ∙ sum-range f 0 n
    ∙ ap (sum f) (ap (λ (x : State). x.settings.meetings) (sym (good-state a.diary.good)))
