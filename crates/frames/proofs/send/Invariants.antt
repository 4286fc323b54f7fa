-- `send`: the bytes that were sent are those in front.
-- Assumes nothing.
use Rattle.std.proofs.Common.{◌≤◌, length, take}
use Rattle.std.specs.Io.KnownBytes.{Appends}
use Rattle.frames.proofs.send.Given as goal

abbrev pub invariant-loop : goal.invariant-loop
invariant-loop g l = record {
  within : l.sent ≤ length l.bytes;
  gone : Appends (g.W.Write.contents l.initial.output) (g.W.Write.contents l.output) (take l.sent l.bytes);
}
