-- Long enough to have limits, of the length that they ask for, and all in range.
-- Assumes nothing.
use mathlib.Core.Path.{sym, ◌∙◌}
use native.Mathlib.Omega.{arith}
use Rattle.header.proofs.Heads.{good-short, good_length, good-valid}
use Rattle.header.proofs.settings.settings_good.Goals as goal

pub returns-then-words-lt-FIXED_WORDS : goal.returns-then-words-lt-FIXED_WORDS
returns-then-words-lt-FIXED_WORDS c = sym (good-short c.args.words.now (omega arith))

pub returns-then-words-settings_len : goal.returns-then-words-settings_len
returns-then-words-settings_len c =
    sym (good_length c.args.words.now c.settings-s.result c.settings-s.ensures (omega arith) (λ e. omega arith))

pub returns : goal.returns
returns c =
    c.valid.ensures
    ∙ sym (good-valid c.args.words.now c.settings-s.result c.settings-s.ensures (omega arith) (omega arith))
