-- `order`: checked, then one step.
-- Assumes nothing.
use mathlib.Core.Path.{sym, ◌∙◌}
use Rattle.model.proofs.Answers.{err-is}
use Rattle.model.specs.Machine.{ordered}
use Rattle.step.proofs.Kept.{good-call}
use Rattle.checking.proofs.Verdicts.{call-refused, done-good}
use Rattle.engine.proofs.Whole.{with-removal}
use Rattle.engine.proofs.order.Goals as goal

pub returns-in_err-check : goal.returns-in_err-check
returns-in_err-check c =
    let a = c.args in
    let e = err-is _ c.from_residual.ensures.1 in
    let both = with-removal a.book.now a.order a.r _ _
    (call-refused a.book.now (ordered a.order a.r) (sym c.check.ensures ∙ c.in_err-check.was)) in
    record { call = rw e both.0; removal = rw e both.1 }

pub answer_one-requires : goal.answer_one-requires
answer_one-requires c =
    let a = c.args in
    rw c.settings-s.ensures
    (done-good a.book.now _ (sym c.check.ensures ∙ c.in_ok-check.was))

pub returns : goal.returns
returns c =
    let a = c.args in
    let both = with-removal a.book.now a.order a.r _ _
    (c.answer_one.ensures
    ∙ sym (good-call (done-good a.book.now _
    (sym c.check.ensures
    ∙ c.in_ok-check.was)) (ordered a.order a.r))) in
    record { call = both.0; removal = both.1 }
