-- The words that are kept with the order, and the answer that is.
-- Assumes nothing.
use mathlib.Core.Path.{◌∙◌}
use native.Mathlib.Omega.{arith}
use Rattle.model.specs.Tail.{tail_length}
use Rattle.ring.proofs.Entries.{other-words, same-words}
use Rattle.ring.proofs.answer_to.Goals as goal

pub is_request-requires : goal.is_request-requires
unfolding tail_length
is_request-requires c = omega (arith, c.requires.tail_len, c.requires.place_lt_ring_places)

pub returns-then-not-is_request : goal.returns-then-not-is_request
returns-then-not-is_request c = c.refused.ensures ∙ other-words c.args.tail.now c.args.place c.requires.place_lt_ring_places c.args.r _ c.is_request.ensures (c.if-not-is_request.true)

pub bounds-tail-at : goal.bounds-tail-at
unfolding tail_length
bounds-tail-at c = omega (arith, c.requires.tail_len, c.requires.place_lt_ring_places)

pub bounds-tail-at-2 : goal.bounds-tail-at-2
unfolding tail_length
bounds-tail-at-2 c = omega (arith, c.requires.tail_len, c.requires.place_lt_ring_places)

pub bounds-tail-at-3 : goal.bounds-tail-at-3
unfolding tail_length
bounds-tail-at-3 c = omega (arith, c.requires.tail_len, c.requires.place_lt_ring_places)

pub returns : goal.returns
returns c = same-words c.args.tail.now c.args.place c.requires.place_lt_ring_places c.args.r _ c.is_request.ensures
    (c.if-not-is_request.false) c.into.ensures
