-- `lay::lay_words`: question 24, then 25, then a fresh book.
-- Assumes nothing.
use Rattle.lines.proofs.Layings.{laid_none, laid-large, laid-good}
use Rattle.lines.proofs.lay.lay_words.Goals as goal

pub returns-in_default : goal.returns-in_default
returns-in_default c = rw c.refused.ensures (laid_none _ c.in_default.ensures)

pub returns-then-size-gt-PROGRAM_WORDS : goal.returns-then-size-gt-PROGRAM_WORDS
returns-then-size-gt-PROGRAM_WORDS c = rw c.refused-then-size-gt-PROGRAM_WORDS.ensures (laid-large _ c.in-Some.ensures c.if-size-gt-PROGRAM_WORDS.true)

pub returns : goal.returns
returns c =
    laid-good _ _ c.in-Some.ensures c.if-size-gt-PROGRAM_WORDS.false c.requires
    c.lay.ensures c.lay.auto.book
