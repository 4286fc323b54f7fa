-- `stream::end_later`: what is held is answered as a chunk of one line.
-- Assumes nothing.
use mathlib.Core.Path.{ap}
use native.Mathlib.Omega.{arith}
use Rattle.lines.specs.Post.{ends, held_of}
use Rattle.lines.proofs.Keeping.{ended-bytes}
use Rattle.lines.proofs.Turns.{ends-one}
use Rattle.lines.proofs.Streams.{responded}
use Rattle.lines.proofs.stream.end_later.Goals as goal

pub answer_lines-p-requires-clause-chunk_in_bounds : goal.answer_lines-p-requires-clause-chunk_in_bounds
answer_lines-p-requires-clause-chunk_in_bounds c =
    let h = c.requires.holds in
    omega (arith, ap ends (ended-bytes c.args.held h), ends-one (held_of c.args.held) h.free, c.requires.answer_bytes_in_bounds)

pub returns : goal.returns
returns c =
    let h = c.requires.holds in
    responded c.args.book.now (held_of c.args.held) c.args.size c.requires.size_in_bounds h.free (rw (ended-bytes c.args.held h) at c.answer_lines-p.ensures)
    c.answer_lines-p.auto.book
