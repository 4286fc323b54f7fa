-- `foresee`: judged, and question 30 behind the answer.
-- Assumes nothing.
use mathlib.Core.Path.{sym, ◌∙◌}
use Rattle.model.proofs.Answers.{err-is}
use lib.Seq.{length-take-le}
use Rattle.model.proofs.Ledger.{diary-fits, last_word}
use Rattle.book.specs.Lent.{reading}
use Rattle.book.proofs.Goods.{good-laid, good-part, part-good}
use Rattle.step.proofs.Kept.{count-is, seen-refused, seen-full, seen_done}
use Rattle.step.proofs.foresee.Goals as goal

pub site_of-site-requires : goal.site_of-site-requires
site_of-site-requires c = (good-laid (good-part c.requires.good_book)).ranges

pub slice_bounds-words-end : goal.slice_bounds-words-end
slice_bounds-words-end c = sym (length-take-le _ _ (diary-fits _ c.requires.good_book.laid c.requires.good_book.read c.requires.diary_value))

pub invariant_of-judge : goal.invariant_of-judge
unfolding reading
invariant_of-judge c = rw c.site_of-site.ensures (record { good = part-good c.requires.good_book _ c.requires.diary_value })

pub returns-in_err-value : goal.returns-in_err-value
unfolding reading
returns-in_err-value c =
    rw (err-is _ c.from_residual.ensures.1) (seen-refused c.requires.good_book c.requires.diary_value c.args.r c.judge.ensures c.in_err-value.was)

pub count-requires : goal.count-requires
count-requires c = last_word _ c.requires.good_book.laid

pub returns-then-is_full : goal.returns-then-is_full
unfolding reading
returns-then-is_full c =
    c.refused.ensures
    ∙ seen-full c.requires.good_book c.requires.diary_value c.args.r c.judge.ensures c.in_ok-value.was (c.count.ensures ∙ count-is c.requires.good_book)
    (sym c.is_full.ensures ∙ c.if-is_full.true)

pub returns : goal.returns
unfolding reading
returns c =
    sym c.in_ok-value.was
    ∙ seen_done c.requires.good_book c.requires.diary_value c.args.r c.judge.ensures c.in_ok-value.was (c.count.ensures ∙ count-is c.requires.good_book)
    (sym c.is_full.ensures ∙ c.if-is_full.false)
