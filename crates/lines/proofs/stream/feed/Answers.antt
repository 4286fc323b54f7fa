-- `stream::feed`: the held line first, then whole lines, and the rest is held.
-- Assumes nothing.
use Rattle.lines.proofs.Streams.{all_held, line-held}
use Rattle.framing.proofs.Looking.{all-free, line-leads}
use Rattle.lines.proofs.stream.feed.Goals as goal

pub hold-requires-clause-free : goal.hold-requires-clause-free
hold-requires-clause-free c = all-free c.args.chunk.now c.in_default.ensures

pub returns-in_default : goal.returns-in_default
returns-in_default c =
    all_held c.args.stream c.args.book.now c.args.chunk.now c.requires.going c.hold.ensures (all-free c.args.chunk.now c.in_default.ensures)

pub hold-held-requires-clause-free : goal.hold-held-requires-clause-free
hold-held-requires-clause-free c = (line-leads c.args.chunk.now c.in-Some.n c.in-Some.ensures).free

pub returns : goal.returns
returns c =
    line-held c.args.stream c.args.book.now c.args.chunk.now c.in-Some.n c.end_held-e.result c.requires.going c.hold-held.ensures
    (line-leads c.args.chunk.now c.in-Some.n c.in-Some.ensures)
    c.end_held-e.ensures
    c.go_on.ensures.0 c.go_on.ensures.1
