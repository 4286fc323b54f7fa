-- The entries passed so far keep the law.
-- Assumes nothing.
use mathlib.Core.Path.{sym, ◌∙◌}
use native.Mathlib.Omega.{arith}
use Rattle.model.specs.Tail.{tail_length}
use Rattle.model.proofs.Search.{passed_first}
use Rattle.ring.proofs.Entries.{tail-fails, tail-passes}
use Rattle.ring.proofs.law.kept.Goals as goal

pub loop-i-init : goal.loop-i-init
loop-i-init c = (omega arith, λ k h. absurd (omega (arith, h)))

pub entry_kept-requires : goal.entry_kept-requires
entry_kept-requires c = record {
  tail_len = c.requires;
  i_lt_ring_places = c.loop-i-test.true;
}

pub returns-then-not-entry_kept : goal.returns-then-not-entry_kept
returns-then-not-entry_kept c = tail-fails c.args.tail.now c.loop-i.i c.loop-i-test.true
    (sym c.entry_kept.ensures ∙ c.if-not-entry_kept.true)

pub loop-i-preserved : goal.loop-i-preserved
loop-i-preserved c = (omega arith, passed_first _ c.loop-i.i c.loop-i.invariant.1 (sym c.entry_kept.ensures ∙ c.if-not-entry_kept.false))

pub bounds-tail-704 : goal.bounds-tail-704
unfolding tail_length
bounds-tail-704 c = omega (arith, c.requires)

pub returns : goal.returns
returns c = let h = c.loop-i-test.false in
    tail-passes c.args.tail.now (λ k g. c.loop-i.invariant.1 k (omega (arith, g, h)))
