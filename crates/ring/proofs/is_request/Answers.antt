-- The seven words, one by one, up to the first that differs.
-- Assumes nothing.
use Rattle.ring.proofs.Entries.{request-at}
use borrow.Author.Tests.{eq-eqb, ne_eqb}
use Rattle.ring.proofs.is_request.Goals as goal

pub returns-then-tail-at : goal.returns-then-tail-at
returns-then-tail-at c =
    rw (ne_eqb _ _ c.if-tail-at.true) at (request-at c.args.tail.now c.args.at c.args.r)

pub returns-then-tail-at-2 : goal.returns-then-tail-at-2
returns-then-tail-at-2 c =
    rw (
      eq-eqb _ _ c.if-tail-at.false,
      ne_eqb _ _ c.if-tail-at-2.true,
    ) at (request-at c.args.tail.now c.args.at c.args.r)

pub returns-then-tail-at-3 : goal.returns-then-tail-at-3
returns-then-tail-at-3 c =
    rw (
      eq-eqb _ _ c.if-tail-at.false,
      eq-eqb _ _ c.if-tail-at-2.false,
      ne_eqb _ _ c.if-tail-at-3.true,
    ) at (request-at c.args.tail.now c.args.at c.args.r)

pub returns-then-tail-at-4 : goal.returns-then-tail-at-4
returns-then-tail-at-4 c =
    rw (
      eq-eqb _ _ c.if-tail-at.false,
      eq-eqb _ _ c.if-tail-at-2.false,
      eq-eqb _ _ c.if-tail-at-3.false,
      ne_eqb _ _ c.if-tail-at-4.true,
    ) at (request-at c.args.tail.now c.args.at c.args.r)

pub returns-then-tail-at-5 : goal.returns-then-tail-at-5
returns-then-tail-at-5 c =
    rw (
      eq-eqb _ _ c.if-tail-at.false,
      eq-eqb _ _ c.if-tail-at-2.false,
      eq-eqb _ _ c.if-tail-at-3.false,
      eq-eqb _ _ c.if-tail-at-4.false,
      ne_eqb _ _ c.if-tail-at-5.true,
    ) at (request-at c.args.tail.now c.args.at c.args.r)

pub returns-then-tail-at-6 : goal.returns-then-tail-at-6
returns-then-tail-at-6 c =
    rw (
      eq-eqb _ _ c.if-tail-at.false,
      eq-eqb _ _ c.if-tail-at-2.false,
      eq-eqb _ _ c.if-tail-at-3.false,
      eq-eqb _ _ c.if-tail-at-4.false,
      eq-eqb _ _ c.if-tail-at-5.false,
      ne_eqb _ _ c.if-tail-at-6.true,
    ) at (request-at c.args.tail.now c.args.at c.args.r)

pub returns : goal.returns
returns c =
    rw (
      eq-eqb _ _ c.if-tail-at.false,
      eq-eqb _ _ c.if-tail-at-2.false,
      eq-eqb _ _ c.if-tail-at-3.false,
      eq-eqb _ _ c.if-tail-at-4.false,
      eq-eqb _ _ c.if-tail-at-5.false,
      eq-eqb _ _ c.if-tail-at-6.false,
    ) at (request-at c.args.tail.now c.args.at c.args.r)
