-- The bounds made so far.
-- Assumes nothing.
use Rattle.rules.specs.Rows.{Most}
use Rattle.rules.proofs.tables.bound.Given as goal

abbrev pub invariant-loop-v : goal.invariant-loop-v
invariant-loop-v l = Most l.table l.v l.limit l.most-items
