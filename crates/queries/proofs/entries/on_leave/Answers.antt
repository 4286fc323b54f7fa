-- A member of the date's row.
-- Assumes nothing.
use Rattle.book.specs.Lent.{reading}
use mathlib.Core.Path.{sym, ◌∙◌}
use Rattle.book.proofs.Regions.{group-lt}
use Rattle.queries.proofs.Shows.{leave-is}
use Rattle.queries.proofs.entries.on_leave.Goals as goal

pub member-requires : goal.member-requires
member-requires c = record {
  slot_lt_slots = rw (c.leave.ensures.grid, c.args.diary.site.sited) c.requires.date_lt_dates;
  v_bound = rw (c.leave.ensures.grid, c.args.diary.site.sited) (group-lt c.args.diary.site.settings.visitors c.args.visitor c.requires.visitor_lt_visitors);
}

pub returns : goal.returns
returns c =
    let a = c.args in
    let e = rw (c.leave.ensures.grid, c.leave.ensures.words, a.diary.site.sited) at c.member.ensures in
    e ∙ sym (leave-is a.diary.site.settings (reading a.diary.words.now) a.diary.good a.date.0 a.visitor c.requires.date_lt_dates c.requires.visitor_lt_visitors)
