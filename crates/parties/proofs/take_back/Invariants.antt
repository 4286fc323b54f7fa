-- `take_back`: of whatever good diary the guests were added to, those who are left are within it.
-- Assumes nothing.
use mathlib.Core.List.{List}
use Prim.Native.Nat.{ℕ}
use Rattle.book.specs.Good.{Good}
use Rattle.book.specs.Lent.{reading}
use Rattle.parties.specs.Guests.{Within}
use Rattle.parties.proofs.take_back.Given as goal

abbrev pub invariant-loop-g : goal.invariant-loop-g
invariant-loop-g l =
    record {
      good : Good l.s (reading l.diary);
      left : (a : List ℕ) → Good l.s a → Within l.s a l.meeting l.guests (reading l.initial.diary)
          → Within l.s a l.meeting l.g-iterator.iter.rest.now (reading l.diary);
    }
