-- `ask`: checked, then foreseen, and the count.
-- Assumes nothing.
use mathlib.Core.Path.{sym, ◌∙◌, ap}
use Rattle.model.specs.Machine.{ask}
use Rattle.model.specs.Site.{valid_settings}
use Rattle.model.proofs.Ledger.{laid-valid, last_word}
use Rattle.book.proofs.Goods.{ranges-by}
use Rattle.step.proofs.Kept.{count-is}
use Rattle.checking.proofs.Verdicts.{call-refused, done-good}
use Rattle.engine.proofs.Whole.{asked-good}
use Rattle.engine.proofs.ask.Goals as goal

pub returns-in-Err : goal.returns-in-Err
returns-in-Err c =
    let a = c.args in
    call-refused a.book.now (ask a.r) (sym c.check.ensures ∙ c.in-Err.is)

pub diary_len-requires : goal.diary_len-requires
diary_len-requires c =
    let a = c.args in
    ranges-by _ (ap valid_settings c.settings-s.ensures ∙ laid-valid a.book.now (done-good a.book.now _ (sym c.check.ensures ∙ c.in_default.is)).laid)

pub foresee-answer-requires : goal.foresee-answer-requires
foresee-answer-requires c =
    let a = c.args in
    record {
      good_book = rw c.settings-s.ensures (done-good a.book.now _ (sym c.check.ensures ∙ c.in_default.is));
      diary_value = c.diary_len.ensures;
    }

pub count-requires : goal.count-requires
count-requires c =
    let a = c.args in
    last_word a.book.now (done-good a.book.now _ (sym c.check.ensures ∙ c.in_default.is)).laid

pub returns : goal.returns
returns c =
    let a = c.args in
    let g = done-good a.book.now _ (sym c.check.ensures ∙ c.in_default.is) in
    asked-good g a.r c.foresee-answer.ensures (c.count.ensures ∙ count-is g)
