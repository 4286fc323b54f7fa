-- Counted, then written.
-- Assumes nothing.
use native.Mathlib.Omega.{arith}
use Rattle.book.proofs.Goods.{good-laid}
use Rattle.pages.proofs.Dates.{ordered, too_short, long-enough}
use Rattle.pages.proofs.fill.Goals as goal

pub on_dates-run-requires-clause-ranges : goal.on_dates-run-requires-clause-ranges
on_dates-run-requires-clause-ranges c = (good-laid c.args.diary.good).ranges

pub lines_between-n-requires : goal.lines_between-n-requires
lines_between-n-requires c = ordered c.args.date.0 c.on_dates-run.ensures

pub returns-then-page-n : goal.returns-then-page-n
returns-then-page-n c =
    rw c.refused.ensures
    (too_short c.args.diary.good c.args.date.0 c.on_dates-run.ensures {p = c.args.page.now} c.lines_between-n.ensures.is (omega (arith, c.if-page-n.true)))

pub put_sessions-requires : goal.put_sessions-requires
put_sessions-requires c = record {
  from_le_to = ordered c.args.date.0 c.on_dates-run.ensures;
  to_in_bounds = omega (arith, c.if-page-n.false, c.lines_between-n.ensures.is);
}

pub returns : goal.returns
returns c =
    long-enough c.args.diary.good c.args.date.0 c.on_dates-run.ensures c.lines_between-n.ensures.is (omega (arith, c.if-page-n.false)) c.put_sessions.ensures
