-- The times passed are good, and the tables are ready for the next.
-- Assumes nothing.
use mathlib.Core.Path.{◌∙◌}
use native.Mathlib.Omega.{arith}
use borrow.Author.Count.{below_none, below_more}
use Rattle.std.proofs.lemmas.List.{length_push}
use Rattle.rules.proofs.Answers.{said-true, said-false}
use Rattle.checking.proofs.Cuts.{cut-first, cut-row, cut-next, cut-inside, cut-all}
use Rattle.checking.proofs.dates.Parts.rides.Goals as goal

pub loop-row-init : goal.loop-row-init
loop-row-init c =
    record {
      ready = c.requires;
      cut = rw c.into_iter-row-iterator.ensures.into_iter_gives (cut-first _ _ c.chunks_exact-row-items.ensures.size c.chunks_exact-row-items.ensures.rest);
      passed = below_none _;
    }

pub returns-then-not-guest_row : goal.returns-then-not-guest_row
returns-then-not-guest_row c =
    let s = c.in-Some.ensures.steps.1 in
    let i = c.loop-row.invariant in
    let p = c.args.self.now in
    λ all. said-false c.guest_row.result c.if-not-guest_row.true
    (rw (cut-row i.cut _ _ s.0 s.1) at c.guest_row.ensures.decides)
    (all _ (cut-inside i.cut _ _ s.0 s.1 p.q p.long.rides (omega (arith, p.ranges.transports))))

pub loop-row-preserved : goal.loop-row-preserved
loop-row-preserved c =
    let s = c.in-Some.ensures.steps in
    let i = c.loop-row.invariant in
    let r = i.ready in
    rw (length_push c.loop-row.yielded c.in-Some.row) (record {
      ready = record { few = r.few; size = r.size; same = c.guest_row.auto.seen ∙ r.same; none = r.none; past = r.past; kept = c.guest_row.ensures.past };
      cut = cut-next i.cut _ _ s.1.0 s.1.1 s.0;
      passed = below_more _ _ i.passed (said-true c.guest_row.result c.if-not-guest_row.false (rw (cut-row i.cut _ _ s.1.0 s.1.1) at c.guest_row.ensures.decides));
    })

pub returns : goal.returns
returns c =
    let i = c.loop-row.invariant in
    let p = c.args.self.now in
    λ k h. i.passed k (omega (arith, h, cut-all i.cut p.q p.long.rides c.in-None.ensures.steps.1.0))
