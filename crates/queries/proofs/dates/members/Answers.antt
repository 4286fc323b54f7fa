-- The members of the date's row.
-- Assumes nothing.
use Rattle.book.specs.Lent.{reading}
use mathlib.Core.Path.{refl, ◌∙◌}
use native.Mathlib.Omega.{arith}
use Rattle.book.proofs.Goods.{good-laid}
use Rattle.queries.proofs.Runs.{members-is}
use Rattle.queries.proofs.dates.members.Goals as goal

pub row_members-requires : goal.row_members-requires
row_members-requires c =
    let v = (good-laid c.args.diary.good).ranges.visitors in
    record {
      width_value = rw (c.leave.ensures.grid, c.args.diary.site.sited) (refl, omega (arith, v));
      slot_lt_slots = rw (c.leave.ensures.grid, c.args.diary.site.sited) c.requires.date_lt_dates;
    }

pub returns : goal.returns
returns c =
    let a = c.args in
    let e = rw (c.leave.ensures.grid, c.leave.ensures.words, a.diary.site.sited) at c.row_members.ensures in
    e ∙ members-is a.diary.site.settings (reading a.diary.words.now) a.diary.good a.date.0 c.requires.date_lt_dates
