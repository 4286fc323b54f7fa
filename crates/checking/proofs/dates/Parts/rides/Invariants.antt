-- The times passed are good, and the tables are ready for the next.
-- Assumes nothing.
use Prim.Native.Nat.{ℕ, ◌<◌}
use lib.ListN.{length}
use Rattle.rules.specs.Rows.{Ready, Guests, row_at}
use Rattle.checking.proofs.Cuts.{Cut}
use Rattle.checking.proofs.dates.Parts.rides.Given as goal

abbrev pub invariant-loop-row : goal.invariant-loop-row
invariant-loop-row l =
    let s = l.self.settings in
    record {
      ready : Ready s.visitors l.guests l.seen;
      cut : Cut s.transports (length l.yielded) l.self.ride.now l.row-iterator.size l.row-iterator.rest.now;
      passed : (k : ℕ) → k < length l.yielded → Guests (row_at s.transports k l.self.ride.now) s.visitors l.guests;
    }
