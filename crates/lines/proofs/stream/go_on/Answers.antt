-- `stream::go_on`: whole lines are answered, and the rest is held.
-- Assumes nothing.
use native.Mathlib.Omega.{arith}
use Rattle.lines.proofs.Turns.{ends-le}
use Rattle.lines.proofs.Streams.{size-is, rest_over, rest-later}
use Rattle.lines.proofs.stream.go_on.Goals as goal

pub returns-in_default : goal.returns-in_default
returns-in_default c = (rest_over c.args.e c.args.chunk.now c.in_default.is c.nothing.ensures, size-is c.args.e c.in_default.is)

pub answer_lines-p-requires-clause-chunk_in_bounds : goal.answer_lines-p-requires-clause-chunk_in_bounds
answer_lines-p-requires-clause-chunk_in_bounds c = omega (arith, c.requires.chunk_in_bounds, ends-le c.args.chunk.now)

pub returns : goal.returns
returns c = (
  rest-later c.args.book.now c.args.e c.args.chunk.now c.in-Some.size c.in-Some.is
      (omega (arith, size-is c.args.e c.in-Some.is, c.requires.end_sized.fits))
      c.answer_lines-p.ensures c.answer_lines-p.auto.book (rw c.nothing-2.ensures.same at c.hold.ensures),
  size-is c.args.e c.in-Some.is,
)
