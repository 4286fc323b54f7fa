-- By the two searches, the cheaper one first.
-- Assumes nothing.
use mathlib.Core.Bool.{and-true, and-false}
use Rattle.model.specs.Kinds.{sessions}
use Rattle.book.proofs.Goods.{good-laid}
use Rattle.units.proofs.Slots.{date-lt}
use Rattle.questions.specs.Asked.{not_held}
use Rattle.questions.proofs.slots.not_held.Goals as goal

pub date_of-date-requires : goal.date_of-date-requires
date_of-date-requires c = (good-laid c.args.diary.good).ranges

pub lunch_held-requires-clause-date_lt_dates : goal.lunch_held-requires-clause-date_lt_dates
lunch_held-requires-clause-date_lt_dates c =
    let a = c.args in
    rw c.date_of-date.ensures (date-lt a.diary.site.settings (good-laid c.args.diary.good).ranges sessions a.session.0 c.requires.session_bound)

pub returns-then-lunch_held : goal.returns-then-lunch_held
unfolding not_held
returns-then-lunch_held c = rw (← c.date_of-date.ensures, ← c.lunch_held.ensures, c.if-lunch_held.true, and-false _)

pub returns : goal.returns
unfolding not_held
returns c =
    rw (
      ← c.date_of-date.ensures,
      ← c.lunch_held.ensures,
      c.if-lunch_held.false,
      ← c.conf_held.ensures,
      and-true _,
    )
