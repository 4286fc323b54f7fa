-- The sessions passed have no unused bits set.
-- Assumes nothing.
use Prim.Native.Nat.{ℕ, ◌<◌}
use lib.ListN.{length}
use Rattle.model.specs.Words.{groups}
use Rattle.rules.specs.Rows.{Padded, row_at}
use Rattle.checking.proofs.Cuts.{Cut}
use Rattle.checking.proofs.dates.Parts.is_padded.Given as goal

abbrev pub invariant-loop-row : goal.invariant-loop-row
invariant-loop-row l = record {
  cut : Cut l.words (length l.yielded) l.self.stand.now l.row-iterator.size l.row-iterator.rest.now;
  passed : (k : ℕ) → k < length l.yielded → Padded (row_at (groups l.self.settings.meetings) k l.self.stand.now) l.self.settings.meetings;
}
