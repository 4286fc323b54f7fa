-- The dates passed keep the laws.
-- Assumes nothing.
use native.Mathlib.Omega.{arith}
use borrow.Author.Count.{below_more}
use Rattle.rules.proofs.Answers.{said-true}
use Rattle.checking.proofs.dates.dates.Goals as goal

pub loop-d-preserved : goal.loop-d-preserved
loop-d-preserved c =
    let here = said-true c.date_at.result (c.if-not-date_at.false) c.date_at.ensures in
    λ k h. below_more _ c.loop-d.d c.loop-d.invariant here k (omega (arith, h))
