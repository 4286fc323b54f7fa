-- The sessions before i have their lines.
-- Assumes nothing.
use Prim.Native.Nat.{◌-◌, ◌≤◌}
use Rattle.model.specs.Reading.{state_of}
use Rattle.model.specs.Page.{join_from, session_lines}
use Rattle.book.specs.Lent.{reading}
use Rattle.pages.specs.Pages.{Written}
use Rattle.pages.proofs.lines.put_sessions.Given as goal

abbrev pub invariant-loop-i : goal.invariant-loop-i
invariant-loop-i l = (l.fn.from.0 ≤ l.i) × (l.i ≤ l.fn.to.0) × Written l.initial.page l.page 0
    (join_from (session_lines (state_of (reading l.diary.words.now))) l.fn.from.0 (l.i - l.fn.from.0)) l.at
