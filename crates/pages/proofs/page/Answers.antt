-- Checked, then the date, then the page.
-- Assumes nothing.
use mathlib.Core.Path.{sym, ◌∙◌, ap}
use native.Mathlib.Omega.{arith}
use lib.Seq.{length-take-le}
use Rattle.model.specs.declared.Settings.{Settings}
use Rattle.model.specs.Words.{diary_length}
use Rattle.model.proofs.Answers.{err-is}
use Rattle.model.proofs.Ledger.{laid-valid, diary-fits}
use Rattle.book.specs.Lent.{reading}
use Rattle.book.proofs.Goods.{ranges-by, part-good}
use Rattle.checking.proofs.Verdicts.{done-good}
use Rattle.pages.proofs.Dates.{page-refused, page-late, page-diary}
use Rattle.pages.proofs.page.Goals as goal

pub returns-in_err-check : goal.returns-in_err-check
returns-in_err-check c =
    let a = c.args in
    rw (err-is _ c.from_residual.ensures.1) (page-refused a.book.now a.date a.page.now (sym c.check.ensures ∙ c.in_err-check.was))

pub returns-then-date-s : goal.returns-then-date-s
returns-then-date-s c =
    let a = c.args in
    let good = done-good a.book.now _ (sym c.check.ensures ∙ c.in_ok-check.was) in
    rw c.refused.ensures
    (page-late good a.date a.page.now (omega (arith, c.if-date-s.true, ap (λ (S : Settings). S.dates) c.settings-s.ensures)))

pub diary_len-n-requires : goal.diary_len-n-requires
diary_len-n-requires c =
    let good = done-good c.args.book.now _ (sym c.check.ensures ∙ c.in_ok-check.was) in
    rw c.settings-s.ensures (ranges-by _ (laid-valid _ good.laid))

pub slice_bounds-diary-end : goal.slice_bounds-diary-end
slice_bounds-diary-end c =
    let good = done-good c.args.book.now _ (sym c.check.ensures ∙ c.in_ok-check.was) in
    sym (length-take-le _ _ (diary-fits _ good.laid good.read (c.diary_len-n.ensures ∙ ap diary_length c.settings-s.ensures)))

pub site_of-requires : goal.site_of-requires
site_of-requires c =
    let good = done-good c.args.book.now _ (sym c.check.ensures ∙ c.in_ok-check.was) in
    rw c.settings-s.ensures (ranges-by _ (laid-valid _ good.laid))

pub invariant_of-diary : goal.invariant_of-diary
unfolding reading
invariant_of-diary c =
    let good = done-good c.args.book.now _ (sym c.check.ensures ∙ c.in_ok-check.was) in
    record {
      good =
          rw (c.site_of.ensures, c.settings-s.ensures)
          (part-good good _ (c.diary_len-n.ensures ∙ ap diary_length c.settings-s.ensures));
    }

pub returns : goal.returns
unfolding reading
returns c =
    let a = c.args in
    let good = done-good a.book.now _ (sym c.check.ensures ∙ c.in_ok-check.was) in
    c.fill.ensures
    ∙ page-diary good a.date a.page.now _ (c.diary_len-n.ensures ∙ ap diary_length c.settings-s.ensures)
    (rw c.settings-s.ensures at c.if-date-s.false)
