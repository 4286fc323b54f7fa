-- A full cell of the visitor names the meeting.
-- Assumes nothing.
use Rattle.book.specs.Lent.{reading}
use mathlib.Core.Path.{sym, ◌∙◌, ap}
use Rattle.queries.proofs.Shows.{held, held_less, meeting-of-is}
use Rattle.queries.proofs.entries.meeting_of.Goals as goal

pub returns : goal.returns
returns c =
    let a = c.args in
    let e = rw (c.attend.ensures.grid, c.attend.ensures.words, c.args.diary.site.sited) at c.cell.ensures in
    held_less c.cell.result c.checked_sub.result c.checked_sub.ensures
    ∙ ap held e
    ∙ sym (meeting-of-is a.diary.site.settings (reading a.diary.words.now) c.args.diary.good a.session.0 a.visitor c.requires.session_bound c.requires.visitor_lt_visitors)
