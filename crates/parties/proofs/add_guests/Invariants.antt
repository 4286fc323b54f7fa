-- `add_guests`: the first i guests are within the diary.
-- Assumes nothing.
use Rattle.std.proofs.Common.{take}
use Rattle.book.specs.Lent.{reading}
use Rattle.parties.specs.Guests.{Within}
use Rattle.parties.proofs.add_guests.Given as goal

abbrev pub invariant-loop-i : goal.invariant-loop-i
invariant-loop-i l = Within l.s (reading l.initial.diary) l.meeting (take l.i l.guests) (reading l.diary)
