-- Test by test.
-- Assumes nothing.
use borrow.Author.Tests.{le-leb, lt-leb}
use Rattle.queries.specs.Found.{middle_of}
use Rattle.queries.proofs.search.middle_of.Goals as goal

pub returns-then-last-first : goal.returns-then-last-first
unfolding middle_of
returns-then-last-first c = rw (le-leb _ _ c.if-last-first.true)

pub returns : goal.returns
unfolding middle_of
returns c = rw (lt-leb _ _ c.if-last-first.false)
