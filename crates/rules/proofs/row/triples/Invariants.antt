-- The triples passed are good, and their seats are added up.
-- Assumes nothing.
use Rattle.rules.proofs.Seating.{Sofar}
use Rattle.rules.proofs.row.triples.Given as goal

abbrev pub invariant-loop-m : goal.invariant-loop-m
invariant-loop-m l = Sofar l.row l.dining l.caps l.table l.sums l.m
