-- Nothing without an order; with one, the entry of its answer.
-- Assumes nothing.
use mathlib.Core.Path.{◌∙◌}
use Rattle.model.specs.Told.{answer_by}
use Rattle.ring.proofs.Entries.{none-noted, next-below, told-kept}
use Rattle.ring.proofs.note.Goals as goal

pub returns-then-order-eq0 : goal.returns-then-order-eq0
returns-then-order-eq0 c =
    none-noted c.args.tail.now c.requires.tail_len c.requires.tail_value c.args.order c.if-order-eq0.true c.args.r (answer_by c.args.t)

pub keep-requires : goal.keep-requires
keep-requires c = record {
  tail_len = c.requires.tail_len;
  ring_length_bound = next-below c.args.tail.now c.requires.tail_len c.requires.tail_value;
}

pub returns : goal.returns
returns c =
    c.keep.ensures
    ∙ told-kept c.args.tail.now c.requires.tail_len c.requires.tail_value c.args.order c.if-order-eq0.false c.args.r _ _ _ c.requires.t_value
