-- A room that no meeting holds has no line.
-- Assumes nothing.
use mathlib.Core.Path.{sym, ◌∙◌}
use native.Mathlib.Omega.{arith}
use Rattle.pages.proofs.Joins.{written_none, written_one}
use Rattle.pages.proofs.Shows.{no_line, table-line, line-one, full-few}
use Rattle.pages.proofs.lines.put_room.Goals as goal

pub returns-then-w-eq0 : goal.returns-then-w-eq0
returns-then-w-eq0 c =
    let a = c.args in
    let e = rw (c.conf-conf.ensures.grid, c.conf-conf.ensures.words, a.diary.site.sited) at c.cell-w.ensures in
    written_none a.page.now a.at
    (no_line a.diary.good a.session.0 c.requires.session_bound.0 a.room c.requires.session_bound.1 (sym e ∙ c.if-w-eq0.true))

pub bounds-table-w : goal.bounds-table-w
bounds-table-w c =
    let a = c.args in
    let e = rw (c.conf-conf.ensures.grid, c.conf-conf.ensures.words, a.diary.site.sited) at c.cell-w.ensures in
    omega (
      arith,
      c.requires.tally.long,
      full-few a.diary.good a.session.0 c.requires.session_bound.0 a.room c.requires.session_bound.1 e,
    )

pub put_line-requires : goal.put_line-requires
put_line-requires c =
    let a = c.args in
    let e = rw (c.conf-conf.ensures.grid, c.conf-conf.ensures.words, a.diary.site.sited) at c.cell-w.ensures in
    omega (
      arith,
      c.requires.room_in_bounds,
      line-one a.diary.good a.session.0 c.requires.session_bound.0 a.room c.requires.session_bound.1 e c.if-w-eq0.false,
    )

pub returns : goal.returns
returns c =
    let a = c.args in
    let e = rw (c.conf-conf.ensures.grid, c.conf-conf.ensures.words, a.diary.site.sited) at c.cell-w.ensures in
    let i = rw (c.conf-conf.ensures.grid, c.conf-conf.ensures.words, a.diary.site.sited) at c.word-info.ensures in
    written_one (table-line a.diary.good a.session.0 c.requires.session_bound.0 a.room
    c.requires.session_bound.1 e c.if-w-eq0.false c.requires.tally i)
    c.put_line.ensures
