-- The rooms below `next` are taken in some session, and the room in hand is free before `slot`.
-- Assumes nothing.
use Rattle.book.specs.Lent.{reading}
use Prim.Native.Nat.{ℕ, ◌-◌, ◌≤◌, ◌<◌}
use mathlib.Core.Path.{◌≡◌}
use mathlib.Core.Bool.{false}
use Rattle.model.specs.Reading.{state_of}
use Rattle.queries.specs.Shown.{room_taken}
use Rattle.queries.proofs.Free.{free_in}
use Rattle.queries.proofs.rooms.lowest_in.Given as goal

abbrev pub invariant-loop-slot : goal.invariant-loop-slot
invariant-loop-slot l = (l.from ≤ l.slot) × (l.slot ≤ l.to)
    × ((k : ℕ) → l.from ≤ k → k < l.slot → room_taken (state_of (reading l.diary.words.now)) l.room k ≡ false)

abbrev pub decreases-loop-slot : goal.decreases-loop-slot
decreases-loop-slot l = l.to - l.slot

abbrev pub invariant-rooms : goal.invariant-rooms
invariant-rooms l = (l.next ≤ l.rooms) × ((c : ℕ) → c < l.next → free_in (state_of (reading l.diary.words.now)) l.from l.to c ≡ false)

abbrev pub decreases-rooms : goal.decreases-rooms
decreases-rooms l = l.rooms - l.next
