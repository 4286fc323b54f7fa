-- The rooms below `next` are taken in some session, and the room in hand is free before `slot`.
-- Assumes nothing.
use Rattle.book.specs.Lent.{reading}
use mathlib.Core.Path.{◌≡◌, ◌∙◌, ap}
use mathlib.Core.Bool.{not}
use native.Mathlib.Omega.{arith}
use borrow.Author.Tests.{eq-eqb, ne_eqb}
use Rattle.model.specs.State.{State}
use Rattle.model.specs.Reading.{state_of, read_state}
use Rattle.book.proofs.Goods.{good-state}
use Rattle.queries.proofs.Free.{free-yes, free-no, lowest-none, lowest-at}
use Rattle.queries.proofs.Shows.{room-taken-is}
use Rattle.model.proofs.Search.{passed_first, passed-more}
use Rattle.queries.proofs.rooms.lowest_in.Goals as goal

pub rooms-preserved : goal.rooms-preserved
rooms-preserved c =
    let a = c.args in
    let e = rw (c.conf.ensures.grid, c.conf.ensures.words, c.args.diary.site.sited) at c.cell.ensures in
    let t = room-taken-is a.diary.site.settings (reading a.diary.words.now) c.args.diary.good c.rooms.next c.loop-slot.slot (omega (arith, c.requires.last_bound)) (omega arith) in (
      omega arith,
      passed_first _ c.rooms.next c.rooms.invariant.1
          (free-no (state_of (reading a.diary.words.now)) a.first.0 a.last.0 c.rooms.next c.loop-slot.slot c.loop-slot.invariant.0 c.loop-slot.invariant.1
          (t ∙ rw (← e) (ap not (ne_eqb _ 0 c.if-cell-ne0.true)))),
    )

pub loop-slot-preserved : goal.loop-slot-preserved
loop-slot-preserved c =
    let a = c.args in
    let e = rw (c.conf.ensures.grid, c.conf.ensures.words, c.args.diary.site.sited) at c.cell.ensures in
    let t = room-taken-is a.diary.site.settings (reading a.diary.words.now) c.args.diary.good c.rooms.next c.loop-slot.slot (omega (arith, c.requires.last_bound)) (omega arith) in
    (omega arith, omega arith, passed-more _ _ c.loop-slot.slot c.loop-slot.invariant.2 (t ∙ rw (← e) (ap not (eq-eqb _ 0 c.if-cell-ne0.false))))

pub returns-then-next-rooms : goal.returns-then-next-rooms
unfolding read_state
returns-then-next-rooms c =
    let a = c.args in
    let n : (state_of (reading a.diary.words.now)).settings.rooms ≡ a.diary.site.settings.rooms = ap (λ (x : State). x.settings.rooms) (good-state c.args.diary.good) in
    lowest-none (state_of (reading a.diary.words.now)) a.first.0 a.last.0 (λ k h. c.rooms.invariant.1 k (omega (arith, h, n, c.if-next-rooms.true)))

pub returns-else-cell-ne0 : goal.returns-else-cell-ne0
unfolding read_state
returns-else-cell-ne0 c =
    let a = c.args in
    let n : (state_of (reading a.diary.words.now)).settings.rooms ≡ a.diary.site.settings.rooms = ap (λ (x : State). x.settings.rooms) (good-state c.args.diary.good) in
    let e = rw (c.conf.ensures.grid, c.conf.ensures.words, c.args.diary.site.sited) at c.cell.ensures in
    let t = room-taken-is a.diary.site.settings (reading a.diary.words.now) c.args.diary.good c.rooms.next c.loop-slot.slot (omega (arith, c.requires.last_bound)) (omega arith) in
    let all = passed-more _ _ c.loop-slot.slot c.loop-slot.invariant.2 (t ∙ rw (← e) (ap not (eq-eqb _ 0 c.if-cell-ne0.false))) in
    lowest-at (state_of (reading a.diary.words.now)) a.first.0 a.last.0 c.rooms.next (omega (arith, n)) c.rooms.invariant.1
    (free-yes (state_of (reading a.diary.words.now)) a.first.0 a.last.0 c.rooms.next (λ k h g. all k h (omega (arith, g))))
