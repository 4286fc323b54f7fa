-- The sessions passed have no unused bits set.
-- Assumes nothing.
use native.Mathlib.Omega.{arith}
use borrow.Author.Count.{below_none, below_more}
use Rattle.std.proofs.lemmas.List.{length_push}
use Rattle.rules.proofs.Answers.{said-true, said-false}
use Rattle.checking.proofs.Cuts.{cut-first, cut-row, cut-next, cut-inside, cut-all}
use Rattle.checking.proofs.dates.Parts.is_padded.Goals as goal

pub loop-row-init : goal.loop-row-init
loop-row-init c =
    record { cut = rw c.into_iter-row-iterator.ensures.into_iter_gives (cut-first _ _ c.chunks_exact-row-items.ensures.size c.chunks_exact-row-items.ensures.rest); passed = below_none _ }

pub returns-then-not-padded : goal.returns-then-not-padded
returns-then-not-padded c =
    let s = c.in-Some.ensures.steps.1 in
    let i = c.loop-row.invariant in
    let p = c.args.self.now in
    λ all. said-false c.padded.result c.if-not-padded.true
    (rw (cut-row i.cut _ _ s.0 s.1) at c.padded.ensures)
    (all _ (cut-inside i.cut _ _ s.0 s.1 p.n p.long.stands (omega (arith, p.ranges.meetings))))

pub loop-row-preserved : goal.loop-row-preserved
loop-row-preserved c =
    let s = c.in-Some.ensures.steps in
    let i = c.loop-row.invariant in
    rw (length_push c.loop-row.yielded c.in-Some.row) (record {
      cut = cut-next i.cut _ _ s.1.0 s.1.1 s.0;
      passed = below_more _ _ i.passed (said-true c.padded.result c.if-not-padded.false (rw (cut-row i.cut _ _ s.1.0 s.1.1) at c.padded.ensures));
    })

pub returns : goal.returns
returns c =
    let i = c.loop-row.invariant in
    let p = c.args.self.now in
    λ k h. i.passed k (omega (arith, h, cut-all i.cut p.n p.long.stands c.in-None.ensures.steps.1.0))
