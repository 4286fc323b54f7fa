-- `runs::clear_block`: without a word that is w nothing is to be cleared.
-- Assumes nothing.
use mathlib.Core.Path.{sym, ◌∙◌}
use Rattle.book.proofs.Sweeps.{run-kept, cleared-block}
use Rattle.book.proofs.runs.clear_block.Goals as goal

pub returns-then-here-eq0 : goal.returns-then-here-eq0
returns-then-here-eq0 c =
    let a = c.args in
    let e = sym c.if-here-eq0.true ∙ c.part_count-here.ensures in
    cleared-block a.w a.run.start a.run.end a.book.now _ _ c.requires.0 c.requires.1
    (sym (run-kept a.w a.run.start a.run.end a.book.now c.requires.0 c.requires.1 (sym e))) e

pub returns : goal.returns
returns c =
    let a = c.args in
    cleared-block a.w a.run.start a.run.end a.book.now _ _ c.requires.0 c.requires.1 c.clear_words.ensures
    c.part_count-here.ensures
