-- The words of the column or-ed so far.
-- Assumes nothing.
use Prim.Native.Nat.{◌+◌, ◌*◌}
use mathlib.Core.Path.{◌≡◌}
use lib.ListN.{get_or}
use Rattle.rules.specs.Rows.{ors}
use Rattle.rules.proofs.tables.column.Given as goal

abbrev pub invariant-loop-p : goal.invariant-loop-p
invariant-loop-p l = l.all ≡ ors (λ p. get_or l.rows (p * l.width + l.k) 0) l.p
