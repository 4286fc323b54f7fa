-- The entries passed so far have other numbers.
-- Assumes nothing.
use mathlib.Core.Path.{sym, ◌∙◌}
use native.Mathlib.Omega.{arith}
use borrow.Author.Tests.{eq-eqb, ne_eqb}
use Rattle.model.specs.Tail.{tail_length}
use Rattle.model.proofs.Search.{passed_first}
use Rattle.book.proofs.Founds.{found_at, found_none}
use Rattle.ring.proofs.Entries.{first_word}
use Rattle.ring.proofs.numbered.Goals as goal

pub loop-i-init : goal.loop-i-init
loop-i-init c = (omega arith, λ k h. absurd (omega (arith, h)))

pub overflow_mul-i : goal.overflow_mul-i
overflow_mul-i c = omega (arith, c.requires.entries_le_ring_places)

pub offset_bounds-tail-i : goal.offset_bounds-tail-i
offset_bounds-tail-i c = omega (arith, c.requires.entries_le_ring_places)

pub bounds-tail-i : goal.bounds-tail-i
unfolding tail_length
bounds-tail-i c = omega (arith, c.requires.tail_len, c.requires.entries_le_ring_places)

pub returns-then-tail-i : goal.returns-then-tail-i
returns-then-tail-i c = let a = c.args in
    found_at _ _ c.loop-i.i c.loop-i.invariant.1 c.loop-i-test.true
    (eq-eqb _ _ (sym (first_word a.tail.now c.loop-i.i) ∙ c.if-tail-i.true))

pub loop-i-preserved : goal.loop-i-preserved
loop-i-preserved c = let a = c.args in
    (omega arith, passed_first _ c.loop-i.i c.loop-i.invariant.1 (ne_eqb _ _ (λ e. c.if-tail-i.false (first_word a.tail.now c.loop-i.i ∙ e))))

pub returns : goal.returns
returns c = let h = c.loop-i-test.false in
    let a = c.args in
    found_none _ a.entries (λ k g. c.loop-i.invariant.1 k (omega (arith, g, h)))
