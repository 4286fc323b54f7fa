-- The rest of the pass gives the answer.
-- Assumes nothing.
use mathlib.Core.Path.{◌≡◌}
use mathlib.Core.Bool.{false}
use lib.ListN.{length, drop, get_or}
use Rattle.rules.specs.Rows.{Marked}
use Rattle.rules.proofs.Passing.{pass}
use Rattle.rules.proofs.row.guests.Given as goal

abbrev pub invariant-loop-cell : goal.invariant-loop-cell
invariant-loop-cell l =
    (length l.seen ≡ length l.initial.seen) × (get_or l.seen 0 false ≡ false) ×
    (pass (drop l.cell-index l.row) l.seen l.bad ≡ pass l.row l.initial.seen false) × Marked l.initial.seen l.seen
