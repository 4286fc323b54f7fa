-- `stream::answer_lines`: each turn answers the first line of what is left.
-- Assumes nothing.
use mathlib.Core.Path.{sym, subst}
use native.Mathlib.Omega.{arith}
use Rattle.units.specs.Ranges.{Ranges}
use Rattle.book.proofs.Goods.{good-laid, good-part}
use Rattle.lines.proofs.Turns.{more-so, more-ends}
use Rattle.lines.proofs.stream.answer_lines.Goals as goal

pub diary_len-diary-requires : goal.diary_len-diary-requires
diary_len-diary-requires c =
    subst Ranges (sym c.settings-s.ensures) (good-laid (good-part c.requires.good_book)).ranges

-- the answer has room
pub put_answer-requires : goal.put_answer-requires
put_answer-requires c =
    let v = c.loop-t.invariant in
    omega (arith, v.room, v.out-kept, c.requires.chunk_in_bounds, more-ends c.args.chunk.now c.loop-t.i c.in-Some.t v.within v.good c.in-Some.ensures)

pub loop-t-preserved : goal.loop-t-preserved
loop-t-preserved c = more-so c.in-Some.t c.loop-t.invariant c.in-Some.ensures c.take_line.auto.book c.put_answer.ensures
