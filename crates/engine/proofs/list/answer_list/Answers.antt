-- `list::answer_list`: checked once, then each request in turn.
-- Assumes nothing.
use mathlib.Core.Path.{sym, ◌∙◌}
use native.Mathlib.Omega.{arith}
use lib.ListN.{length}
use Rattle.model.proofs.Answers.{err-is}
use Rattle.checking.proofs.Verdicts.{done-good}
use Rattle.engine.proofs.Splices.{list-fits}
use Rattle.engine.proofs.Whole.{list-refused, list_done}
use Rattle.engine.proofs.list.answer_list.Goals as goal

pub returns-in_err-check : goal.returns-in_err-check
returns-in_err-check c =
    let a = c.args in
    rw (err-is _ c.from_residual.ensures.1) (list-refused a.width a.book.now a.list.now a.answers.now (sym c.check.ensures ∙ c.in_err-check.was))

pub answer_all-requires : goal.answer_all-requires
answer_all-requires c =
    let a = c.args in
    record {
      good_book = rw c.settings-s.ensures
          (done-good a.book.now _ (sym c.check.ensures
          ∙ c.in_ok-check.was));
      le_width = c.requires;
      width_in_bounds = list-fits c.requires (length a.answers.now) c.answerable_in-n.ensures;
      n_in_bounds = omega (arith, c.answerable_in-n.ensures);
    }

pub returns : goal.returns
returns c =
    let a = c.args in
    list_done a.width a.book.now a.list.now a.answers.now
    (sym c.check.ensures
    ∙ c.in_ok-check.was)
    c.answerable_in-n.ensures c.answer_all.ensures
