-- Each answer by the two questions.
-- Assumes nothing.
use mathlib.Core.Path.{sym, ◌∙◌}
use Rattle.checking.proofs.Verdicts.{check-one, check-two, check_done}
use Rattle.checking.proofs.check.Goals as goal

pub returns-then-not-well_laid : goal.returns-then-not-well_laid
returns-then-not-well_laid c = c.refused.ensures ∙ sym (check-one _ (sym c.well_laid.ensures ∙ c.if-not-well_laid.true))

pub book_lawful-requires : goal.book_lawful-requires
book_lawful-requires c = sym c.well_laid.ensures ∙ c.if-not-well_laid.false

pub returns-then-not-book_lawful : goal.returns-then-not-book_lawful
returns-then-not-book_lawful c =
    c.refused-then-not-book_lawful.ensures
    ∙ sym (check-two _ (sym c.well_laid.ensures ∙ c.if-not-well_laid.false)
    (sym c.book_lawful.ensures ∙ c.if-not-book_lawful.true))

pub returns : goal.returns
returns c =
    sym (check_done _ (sym c.well_laid.ensures ∙ c.if-not-well_laid.false)
    (sym c.book_lawful.ensures ∙ c.if-not-book_lawful.false))
