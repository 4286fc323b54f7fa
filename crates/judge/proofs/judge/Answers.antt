-- `judge`: the kind's own function in each arm, and question 3 where no kind has the number.
-- Assumes nothing.
use mathlib.Core.Path.{◌∙◌}
use Rattle.book.specs.Lent.{reading}
use Rattle.kinds.proofs.Numbers.{no_kind}
use Rattle.judge.proofs.Whole.{step-none}
use Rattle.judge.proofs.judge.Goals as goal

pub returns-in_default : goal.returns-in_default
returns-in_default c =
    c.refused.ensures ∙ step-none (reading c.args.diary.words.now) c.args.r (no_kind c.args.r.kind c.before.in_default.in_default-own.rest)
