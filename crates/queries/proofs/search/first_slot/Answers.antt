-- The test says no for each slot passed so far.
-- Assumes nothing.
use native.Mathlib.Omega.{arith}
use Rattle.queries.proofs.Found.{no-more, first-at, first-none}
use Rattle.queries.proofs.search.first_slot.Goals.{else-loop-i-test, then-loop-i-test+else-found+else-i-last}
use Rattle.queries.proofs.search.first_slot.Goals as goal

pub returns-then-found : goal.returns-then-found
returns-then-found g c =
    first-at (goal.F-post g c.args.found) _ _ c.loop-i.invariant.1 c.loop-i.invariant.0 c.loop-i-test.true (rw c.if-found.true at c.found.ensures)

pub returns : goal.returns
returns g c =
    let answer = goal.F-post g c.args.found in
    elim c.loop-i-test.branch [
      | else-loop-i-test w ↦ first-none answer _ _ c.loop-i.invariant.1 w.loop-i-test.false
      | then-loop-i-test+else-found+else-i-last w ↦
          first-none answer _ _ (no-more answer _ _ c.loop-i.invariant.1 (rw w.if-found.false at w.found.ensures)) (omega arith)
    ]
