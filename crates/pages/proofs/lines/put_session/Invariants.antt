-- The rooms before `room` have their lines.
-- Assumes nothing.
use Prim.Native.Nat.{◌-◌, ◌≤◌}
use Rattle.model.specs.Reading.{state_of}
use Rattle.model.specs.Page.{join_from, room_line}
use Rattle.book.specs.Lent.{reading}
use Rattle.pages.specs.Pages.{Written}
use Rattle.pages.proofs.lines.put_session.Given as goal

abbrev pub invariant-loop-room : goal.invariant-loop-room
invariant-loop-room l = (l.room ≤ l.diary.site.settings.rooms) × Written l.initial.page l.page l.at
    (join_from (room_line (state_of (reading l.diary.words.now)) l.session.0) 0 (l.room - 0)) l.next
