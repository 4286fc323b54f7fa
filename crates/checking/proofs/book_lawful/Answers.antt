-- The diary's words, then those between them and the last word.
-- Assumes nothing.
use mathlib.Core.Path.{sym, ◌∙◌, ap}
use native.Mathlib.Omega.{arith}
use lib.Seq.{length-take-le}
use Rattle.model.specs.Site.{valid_settings}
use Rattle.model.proofs.Ledger.{laid-valid, diary-fits, last_word, tail-fits}
use Rattle.book.proofs.Goods.{ranges-by}
use Rattle.checking.proofs.Verdicts.{first-laid, two-no, two-yes, tail-long}
use Rattle.checking.proofs.book_lawful.Goals as goal

pub diary_len-n-requires : goal.diary_len-n-requires
diary_len-n-requires c = ranges-by _ (ap valid_settings c.settings.ensures ∙ laid-valid _ c.requires)

pub slice_bounds-diary_lawful-end : goal.slice_bounds-diary_lawful-end
slice_bounds-diary_lawful-end c =
    sym (length-take-le _ _ (diary-fits _ c.requires c.settings.ensures c.diary_len-n.ensures))

pub diary_lawful-requires : goal.diary_lawful-requires
diary_lawful-requires c =
    first-laid _ c.requires _ c.settings.ensures _ c.diary_len-n.ensures

pub returns-then-not-diary_lawful : goal.returns-then-not-diary_lawful
returns-then-not-diary_lawful c =
    sym (two-no _ c.requires _ c.settings.ensures _ c.diary_len-n.ensures
    (sym c.diary_lawful.ensures ∙ c.if-not-diary_lawful.true))

pub overflow_sub-book : goal.overflow_sub-book
overflow_sub-book c = last_word _ c.requires

pub offset_bounds-book-n : goal.offset_bounds-book-n
offset_bounds-book-n c =
    omega (arith, diary-fits _ c.requires c.settings.ensures c.diary_len-n.ensures)

pub slice_bounds-kept-count : goal.slice_bounds-kept-count
slice_bounds-kept-count c =
    tail-fits _ c.requires c.settings.ensures c.diary_len-n.ensures

pub slice_bounds-kept-start : goal.slice_bounds-kept-start
slice_bounds-kept-start c =
    tail-fits _ c.requires c.settings.ensures c.diary_len-n.ensures

pub kept-requires : goal.kept-requires
kept-requires c = tail-long _ c.requires _ c.settings.ensures _ c.diary_len-n.ensures

pub returns : goal.returns
returns c =
    c.kept.ensures
    ∙ two-yes _ c.requires _ c.settings.ensures _ c.diary_len-n.ensures
    (sym c.diary_lawful.ensures ∙ c.if-not-diary_lawful.false)
