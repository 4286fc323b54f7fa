-- An entry of the meeting is a cell of the session that holds it.
-- Assumes nothing.
use Rattle.book.specs.Lent.{reading}
use mathlib.Core.Path.{sym, ◌∙◌}
use native.Mathlib.Omega.{arith}
use Rattle.book.proofs.Goods.{good-laid}
use Rattle.queries.proofs.Shows.{conf-held-is}
use Rattle.queries.proofs.entries.conf_held.Goals as goal

pub overflow_add-meeting : goal.overflow_add-meeting
overflow_add-meeting c = omega (arith, (good-laid c.args.diary.good).ranges.meetings)

pub returns : goal.returns
returns c =
    let a = c.args in
    let e = rw (c.conf.ensures.grid, c.conf.ensures.words, a.diary.site.sited) at c.row_has.ensures in
    e ∙ sym (conf-held-is a.diary.site.settings (reading a.diary.words.now) a.diary.good a.session.0 a.meeting c.requires.session_bound c.requires.meeting_lt_meetings)
