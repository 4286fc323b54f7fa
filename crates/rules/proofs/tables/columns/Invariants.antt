-- The columns made so far.
-- Assumes nothing.
use Prim.Native.Nat.{ℕ, ◌+◌, ◌*◌, ◌<◌}
use mathlib.Core.Path.{◌≡◌}
use lib.ListN.{get_or}
use Rattle.rules.specs.Rows.{ors}
use Rattle.rules.proofs.tables.columns.Given as goal

abbrev pub invariant-loop-k : goal.invariant-loop-k
invariant-loop-k l = (j : ℕ) → j < l.k → get_or l.word-items j 0 ≡ ors (λ p. get_or l.rows (p * l.width + j) 0) l.n
