-- `line::whole_words`: the words before k are digits.
-- Assumes nothing.
use Prim.Native.Nat.{◌*◌}
use mathlib.Core.Path.{◌≡◌}
use lib.ListN.{take}
use Rattle.text.specs.Digits.{digits_only}
use Rattle.framing.proofs.line.whole_words.Given as goal

abbrev pub invariant-loop-k : goal.invariant-loop-k
invariant-loop-k l = l.all ≡ digits_only (take (8 * l.k) l.line)
