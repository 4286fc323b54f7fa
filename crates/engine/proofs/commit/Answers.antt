-- `commit`: checked, question 29, and then one step.
-- Assumes nothing.
use mathlib.Core.Path.{sym, ◌∙◌}
use Rattle.model.proofs.Answers.{err-is}
use Rattle.model.specs.Machine.{commit}
use Rattle.model.proofs.Ledger.{last_word}
use Rattle.step.proofs.Kept.{count-is}
use Rattle.checking.proofs.Verdicts.{call-refused, done-good}
use Rattle.engine.proofs.Whole.{other-count, same_count, with-commit}
use Rattle.engine.proofs.commit.Goals as goal

pub returns-in_err-check : goal.returns-in_err-check
returns-in_err-check c =
    let a = c.args in
    let e = err-is _ c.from_residual.ensures.1 in
    let both = with-commit a.book.now a.count a.r _ _
    (call-refused a.book.now (commit a.count a.r) (sym c.check.ensures ∙ c.in_err-check.was)) in
    record { call = rw e both.0; removal = rw e both.1 }

pub count-requires : goal.count-requires
count-requires c =
    let a = c.args in
    last_word a.book.now (done-good a.book.now _ (sym c.check.ensures ∙ c.in_ok-check.was)).laid

pub returns-then-count : goal.returns-then-count
returns-then-count c =
    let a = c.args in
    let g = done-good a.book.now _ (sym c.check.ensures ∙ c.in_ok-check.was) in
    let both = with-commit a.book.now a.count a.r _ _
    (other-count g a.count a.r (c.count.ensures ∙ count-is g) c.if-count.true) in
    record { call = rw c.refused.ensures both.0; removal = rw c.refused.ensures both.1 }

pub answer_one-requires : goal.answer_one-requires
answer_one-requires c =
    let a = c.args in
    rw c.settings-s.ensures (done-good a.book.now _ (sym c.check.ensures ∙ c.in_ok-check.was))

pub returns : goal.returns
returns c =
    let a = c.args in
    let g = done-good a.book.now _ (sym c.check.ensures ∙ c.in_ok-check.was) in
    let both = with-commit a.book.now a.count a.r _ _
    (same_count g a.count a.r (c.count.ensures ∙ count-is g) c.if-count.false c.answer_one.ensures) in
    record { call = both.0; removal = both.1 }
