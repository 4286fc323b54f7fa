-- `list::answer_all`: what is left of the list gives the rest.
-- Assumes nothing.
use Prim.Native.Nat.{◌*◌}
use mathlib.Core.Path.{sym, ◌∙◌, subst}
use native.Mathlib.Omega.{arith}
use lib.ListN.{get_or, take, drop}
use Rattle.model.specs.Messages.{request_of}
use Rattle.book.specs.Good.{GoodBook}
use Rattle.book.proofs.Goods.{good-laid, good-part, good-long}
use Rattle.step.proofs.Kept.{good-step}
use Rattle.engine.proofs.Splices.{left-start, left-turn, left_end, place-within}
use Rattle.engine.proofs.list.answer_all.Goals as goal

pub diary_len-diary-requires : goal.diary_len-diary-requires
diary_len-diary-requires c = (good-laid (good-part c.requires.good_book)).ranges

pub loop-i-init : goal.loop-i-init
loop-i-init c = (c.requires.good_book, left-start _ _ _ _ _)

pub answer_at-requires : goal.answer_at-requires
answer_at-requires c =
    let h = c.loop-i-test.true in
    record {
      good_book = c.loop-i.invariant.0;
      diary_value = c.diary_len-diary.ensures;
      le_width = c.requires.le_width;
      width_in_bounds = place-within c.requires.le_width h c.requires.width_in_bounds;
      i_in_bounds = omega (arith, c.requires.n_in_bounds, c.loop-i.invariant.1.long);
    }

pub loop-i-preserved : goal.loop-i-preserved
loop-i-preserved c =
    let a = c.args in
    let v = take a.width (drop (c.loop-i.i * a.width) a.list.now) in (
      subst (GoodBook a.s) (sym c.answer_at.ensures.book) (good-step c.loop-i.invariant.0 (get_or v 7 0) (request_of v)),
      left-turn a.s a.width c.requires.le_width a.list.now a.n _ _ c.loop-i.i _ _ _ _ c.loop-i.invariant.0
          c.loop-i-test.true c.requires.n_in_bounds c.loop-i.invariant.1 c.answer_at.ensures,
    )

pub shape_of-book : goal.shape_of-book
shape_of-book c = good-long c.loop-i.invariant.0 ∙ sym (good-long c.requires.good_book)

pub shape_of-answers : goal.shape_of-answers
shape_of-answers c = c.loop-i.invariant.1.long

pub returns : goal.returns
returns c = left_end _ _ _ _ _ c.loop-i.i _ _ (omega arith) c.loop-i.invariant.1
