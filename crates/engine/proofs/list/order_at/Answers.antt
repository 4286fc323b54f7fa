-- `list::order_at`: the eighth word, where there is one.
-- Assumes nothing.
use mathlib.Core.Path.{sym, ◌∙◌}
use lib.ListN.{drop}
use lib.Seq.{get_or-drop}
use Rattle.engine.proofs.Splices.{order-of, no-order}
use Rattle.engine.proofs.list.order_at.Goals as goal

pub returns-then-width-eq-REQUEST_WORDS : goal.returns-then-width-eq-REQUEST_WORDS
returns-then-width-eq-REQUEST_WORDS c = let a = c.args in no-order (drop a.at a.list.now) c.if-width-eq-REQUEST_WORDS.true

pub returns : goal.returns
returns c = let a = c.args in
    sym (get_or-drop a.at a.list.now 7 0) ∙ order-of c.requires.le_width (drop a.at a.list.now) c.if-width-eq-REQUEST_WORDS.false
