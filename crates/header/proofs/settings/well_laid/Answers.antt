-- Long enough to have limits, all in range, and of the length that they ask for.
-- Assumes nothing.
use mathlib.Core.Path.{sym, ◌∙◌}
use native.Mathlib.Omega.{arith}
use Rattle.book.proofs.Goods.{ranges-by}
use Rattle.header.proofs.Heads.{laid-short, laid-bad, laid-good}
use Rattle.header.proofs.settings.well_laid.Goals as goal

pub returns-then-book-lt-FIXED_WORDS : goal.returns-then-book-lt-FIXED_WORDS
returns-then-book-lt-FIXED_WORDS c = sym (laid-short c.args.book.now (omega arith))

pub returns-then-not-valid : goal.returns-then-not-valid
returns-then-not-valid c =
    sym (laid-bad c.args.book.now c.settings-s.result c.settings-s.ensures (omega arith)
    (sym c.valid.ensures ∙ c.if-not-valid.true))

pub length_of-requires : goal.length_of-requires
length_of-requires c = ranges-by c.settings-s.result (sym c.valid.ensures ∙ c.if-not-valid.false)

pub returns : goal.returns
returns c =
    sym (laid-good c.args.book.now c.settings-s.result c.settings-s.ensures (omega arith)
    (sym c.valid.ensures ∙ c.if-not-valid.false) c.length_of.result c.length_of.ensures)
