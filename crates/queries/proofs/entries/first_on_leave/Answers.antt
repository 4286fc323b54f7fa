-- The lowest member of the dates' rows.
-- Assumes nothing.
use mathlib.Core.Path.{sym, ◌∙◌, ap}
use mathlib.Core.Bool.{not}
use native.Mathlib.Omega.{arith}
use Rattle.model.proofs.Search.{failing-same}
use Rattle.book.specs.Lent.{reading}
use Rattle.book.proofs.Regions.{group-lt}
use Rattle.queries.proofs.Shows.{leave-is}
use Rattle.queries.proofs.entries.first_on_leave.Goals as goal

pub first_member-requires : goal.first_member-requires
first_member-requires c = record {
  last_lt_slots = rw (c.leave.ensures.grid, c.args.diary.site.sited) c.requires.last_lt_dates;
  v_bound = rw (c.leave.ensures.grid, c.args.diary.site.sited) (group-lt c.args.diary.site.settings.visitors c.args.visitor c.requires.visitor_lt_visitors);
}

pub returns : goal.returns
returns c =
    let a = c.args in
    let e = rw (c.leave.ensures.grid, c.leave.ensures.words, a.diary.site.sited) at c.first_member.ensures in
    e
    ∙ failing-same _ _ a.first.0 a.last.0
    (λ j l h. ap not (sym (leave-is a.diary.site.settings (reading a.diary.words.now) a.diary.good j a.visitor (omega (arith, h, c.requires.last_lt_dates)) c.requires.visitor_lt_visitors)))
