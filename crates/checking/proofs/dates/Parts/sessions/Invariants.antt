-- The sessions passed are good.
-- Assumes nothing.
use Prim.Native.Nat.{ℕ, ◌*◌, ◌<◌}
use lib.ListN.{length}
use Rattle.model.specs.Words.{groups}
use Rattle.rules.specs.Rows.{row_at}
use Rattle.checking.specs.Days.{Session}
use Rattle.checking.proofs.Cuts.{Cut}
use Rattle.checking.proofs.dates.Parts.sessions.Given as goal

abbrev pub invariant-loop-stand : goal.invariant-loop-stand
invariant-loop-stand l =
    let s = l.self.settings in
    let k = length l.yielded in
    let it = l.stand-iterator in
    record {
      stand : Cut (groups s.meetings) k l.self.stand.now it.a.a.size it.a.a.rest.now;
      attend : Cut s.visitors k l.self.attend.now it.a.b.size it.a.b.rest.now;
      conf : Cut (s.rooms * 2) k l.self.conf.now it.b.size it.b.rest.now;
      passed : (p : ℕ) → p < k
          → Session (row_at (groups s.meetings) p l.self.stand.now) (row_at s.visitors p l.self.attend.now) (row_at (s.rooms * 2) p l.self.conf.now)
          l.bounds s.rooms s.meetings;
    }
