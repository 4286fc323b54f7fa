-- All zeros without a number; with one, the number among those before, and the answer.
-- Assumes nothing.
use mathlib.Core.Bool.{Bool, cond}
use lib.Dec.{eqb}
use borrow.Author.Tests.{eq-eqb, ne_eqb}
use Rattle.model.specs.Tail.{word_of}
use mathlib.Core.Path.{sym, ◌∙◌, ap}
use native.Mathlib.Omega.{arith}
use Rattle.model.specs.Tail.{tail_length}
use Rattle.ring.proofs.Entries.{zeros-at, kept-empty, kept-twice, kept-once}
use Rattle.ring.proofs.law.entry_kept.Goals as goal

pub bounds-tail-at : goal.bounds-tail-at
unfolding tail_length
bounds-tail-at c = omega (arith, c.requires.tail_len, c.requires.i_lt_ring_places)

pub slice_bounds-all_zero-end : goal.slice_bounds-all_zero-end
unfolding tail_length
slice_bounds-all_zero-end c = omega (arith, c.requires.tail_len, c.requires.i_lt_ring_places)

pub returns-then-order-eq0 : goal.returns-then-order-eq0
unfolding tail_length
returns-then-order-eq0 c =
    c.all_zero.ensures
    ∙ zeros-at c.args.tail.now c.args.i (omega (arith, c.requires.tail_len, c.requires.i_lt_ring_places))
    ∙ kept-empty c.args.tail.now c.args.i c.if-order-eq0.true

pub returns-in-Some : goal.returns-in-Some
returns-in-Some c = kept-twice c.args.tail.now c.args.i c.if-order-eq0.false _ c.numbered.ensures _ c.in-Some.is

pub bounds-tail-at-2 : goal.bounds-tail-at-2
unfolding tail_length
bounds-tail-at-2 c = omega (arith, c.requires.tail_len, c.requires.i_lt_ring_places)

pub bounds-tail-at-then-tail-at-eq0 : goal.bounds-tail-at-then-tail-at-eq0
unfolding tail_length
bounds-tail-at-then-tail-at-eq0 c = omega (arith, c.requires.tail_len, c.requires.i_lt_ring_places)

pub returns-then-tail-at-eq0 : goal.returns-then-tail-at-eq0
returns-then-tail-at-eq0 c = let w = c.args.tail.now in
    let i = c.args.i in
    sym (ap (λ (t : Bool). cond t (eqb (word_of w i 9) 0) (eqb (word_of w i 10) 0)) (eq-eqb (word_of w i 8) 0 c.if-tail-at-eq0.true))
    ∙ kept-once w i c.if-order-eq0.false _ c.numbered.ensures c.in_default.is

pub bounds-tail-at-3 : goal.bounds-tail-at-3
unfolding tail_length
bounds-tail-at-3 c = omega (arith, c.requires.tail_len, c.requires.i_lt_ring_places)

pub returns : goal.returns
returns c = let w = c.args.tail.now in
    let i = c.args.i in
    sym (ap (λ (t : Bool). cond t (eqb (word_of w i 9) 0) (eqb (word_of w i 10) 0)) (ne_eqb (word_of w i 8) 0 c.if-tail-at-eq0.false))
    ∙ kept-once w i c.if-order-eq0.false _ c.numbered.ensures c.in_default.is
