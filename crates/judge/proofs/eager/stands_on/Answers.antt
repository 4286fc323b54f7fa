-- The sessions of a date lie between two cuts.
-- Assumes nothing.
use mathlib.Core.Path.{◌∙◌}
use native.Mathlib.Omega.{arith}
use Rattle.book.specs.Lent.{reading}
use Rattle.book.proofs.Goods.{good-laid}
use Rattle.book.proofs.Regions.{group-lt}
use Rattle.queries.proofs.Free.{date-bits}
use Rattle.judge.proofs.eager.stands_on.Goals as goal

pub on_dates-run-requires : goal.on_dates-run-requires
on_dates-run-requires c = record {
  ranges = (good-laid c.args.diary.good).ranges;
  first_le_last = omega arith;
  last_lt_dates = c.requires.date_lt_dates;
}

pub member_between-requires : goal.member_between-requires
member_between-requires c = record {
  hi_le_slots = rw (c.standing.ensures.grid, c.args.diary.site.sited) c.on_dates-run.ensures.ends.most;
  v_bound = rw (c.standing.ensures.grid, c.args.diary.site.sited)
      (group-lt c.args.diary.site.settings.meetings c.args.meeting c.requires.meeting_lt_meetings);
}

pub returns : goal.returns
returns c =
    let e = rw (c.standing.ensures.grid, c.standing.ensures.words, c.args.diary.site.sited) at c.member_between.ensures in
    e
    ∙ date-bits c.args.diary.site.settings (reading c.args.diary.words.now) c.args.diary.good c.args.date.0 c.args.meeting _ _
    c.on_dates-run.ensures.begins c.on_dates-run.ensures.ends c.requires.meeting_lt_meetings
