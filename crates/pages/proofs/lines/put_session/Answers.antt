-- The rooms before `room` have their lines.
-- Assumes nothing.
use Prim.Native.Nat.{◌-◌}
use mathlib.Core.Path.{subst}
use mathlib.Core.List.{List}
use native.Mathlib.Omega.{arith}
use Rattle.model.specs.Reading.{state_of}
use Rattle.model.specs.Page.{PageLine, room_line}
use Rattle.book.specs.Lent.{reading}
use Rattle.pages.specs.Pages.{Written}
use Rattle.pages.proofs.Joins.{join-next, join-start, still-room, written_none, written-more}
use Rattle.pages.proofs.Shows.{session-rooms}
use Rattle.pages.proofs.lines.put_session.Goals as goal

pub loop-room-init : goal.loop-room-init
loop-room-init c =
    let a = c.args in
    (omega arith, written_none a.page.now a.at (join-start (room_line (state_of (reading a.diary.words.now)) a.session.0) 0))

pub put_room-next-requires : goal.put_room-next-requires
put_room-next-requires c =
    let a = c.args in
    let f = room_line (state_of (reading a.diary.words.now)) a.session.0 in
    let all = a.diary.site.settings.rooms in
    record {
      tally = c.tally-table.ensures;
      session_bound = (c.requires.session_bound, omega arith);
      room_in_bounds =
          still-room f 0 c.loop-room.room all (omega arith) (omega arith) (rw (session-rooms a.diary.good a.session.0 {n = all - 0} (omega arith)) c.requires.session_in_bounds)
          c.loop-room.invariant.1;
    }

pub loop-room-preserved : goal.loop-room-preserved
loop-room-preserved c =
    let a = c.args in (
      omega arith,
      written-more (join-next (room_line (state_of (reading a.diary.words.now)) a.session.0) 0 c.loop-room.room (omega arith)) c.loop-room.invariant.1
          c.put_room-next.ensures,
    )

pub returns : goal.returns
returns c =
    let a = c.args in
    subst (λ (ls : List PageLine). Written a.page.now c.loop-room.page a.at ls c.loop-room.next)
    (session-rooms a.diary.good a.session.0 {n = c.loop-room.room - 0} (omega arith)) c.loop-room.invariant.1
