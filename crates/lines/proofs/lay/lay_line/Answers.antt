-- `lay::lay_line`: the settings' words are read, and the book is laid or refused.
-- Assumes nothing.
use mathlib.Core.Path.{sym, ◌∙◌}
use Rattle.lines.proofs.Layings.{by-not-whole, by-long, by-words}
use Rattle.lines.proofs.lay.lay_line.Goals as goal

pub returns-then-not-whole_words : goal.returns-then-not-whole_words
returns-then-not-whole_words c = rw c.refused.ensures (by-not-whole _ (sym c.whole_words.ensures ∙ c.if-not-whole_words.true))

pub returns-then-n-gt-SETTINGS_WORDS : goal.returns-then-n-gt-SETTINGS_WORDS
returns-then-n-gt-SETTINGS_WORDS c = rw c.refused-then-n-gt-SETTINGS_WORDS.ensures (by-long _ c.if-n-gt-SETTINGS_WORDS.true)

pub returns : goal.returns
returns c =
    by-words _
    (sym c.whole_words.ensures
    ∙ c.if-not-whole_words.false)
    (rw c.line_words.ensures at c.lay_words.ensures)
