-- `list::serve_list`: laid, then each request in turn.
-- Assumes nothing.
use mathlib.Core.Path.{refl, sym, ◌∙◌, ap₂}
use native.Mathlib.Omega.{arith}
use lib.ListN.{length}
use Rattle.model.proofs.Answers.{err-is}
use Rattle.book.specs.Good.{answered}
use Rattle.engine.proofs.Splices.{list-fits}
use Rattle.engine.proofs.Whole.{serve-refused, serve-laid, serve-done}
use Rattle.engine.proofs.list.serve_list.Goals as goal

pub returns-in_err-lay : goal.returns-in_err-lay
returns-in_err-lay c =
    let a = c.args in
    rw (err-is _ c.from_residual.ensures.1)
    (serve-refused a.words.now a.book.now a.width a.list.now a.answers.now
    (ap₂ answered (sym c.in_err-lay.was) refl ∙ c.lay.ensures))

pub answer_all-requires : goal.answer_all-requires
answer_all-requires c =
    let a = c.args in
    record {
      good_book = rw c.settings-s.ensures
          (serve-laid a.words.now a.book.now _ _
          (ap₂ answered (sym c.in_ok-lay.was) refl
          ∙ c.lay.ensures));
      le_width = c.requires;
      width_in_bounds = list-fits c.requires (length a.answers.now) c.answerable_in-count.ensures;
      n_in_bounds = omega (arith, c.answerable_in-count.ensures);
    }

pub returns : goal.returns
returns c =
    let a = c.args in
    serve-done a.words.now a.book.now a.width a.list.now a.answers.now
    (ap₂ answered (sym c.in_ok-lay.was) refl
    ∙ c.lay.ensures)
    c.answerable_in-count.ensures c.answer_all.ensures
