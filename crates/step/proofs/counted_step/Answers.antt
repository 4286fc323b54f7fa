-- `counted_step`: where the count cannot rise the answer is foreseen; else a step on the diary, and the count raised where a change is done.
-- Assumes nothing.
use mathlib.Core.Path.{sym, subst, ◌∙◌, ap}
use native.Mathlib.Omega.{arith}
use lib.Seq.{length-take-le}
use Rattle.model.specs.declared.Settings.{Settings}
use Rattle.model.proofs.Ledger.{diary-fits, last_word}
use Rattle.book.specs.Lent.{reading}
use Rattle.book.specs.Good.{GoodBook, answered}
use Rattle.ring.proofs.Telling.{told-no, told-yes}
use Rattle.book.proofs.Goods.{part-good}
use Rattle.step.proofs.Kept.{count-is, foreseen-full, part-tellable, part_same, part-refused, part-raised, whole_long}
use borrow.Author.Tests.{ne_eqb}
use Rattle.step.proofs.counted_step.Goals as goal

pub count-changes-requires : goal.count-changes-requires
count-changes-requires c = last_word _ c.requires.good_book.laid

pub foretell-requires : goal.foretell-requires
foretell-requires c =
    subst (λ (S : Settings). GoodBook S c.args.book.now) c.requires.good_book.read c.requires.good_book

pub returns-then-changes : goal.returns-then-changes
returns-then-changes c =
    record {
      answer = c.foretell.result;
      told = c.into.ensures;
      is = foreseen-full c.requires.good_book c.args.r (sym (c.count-changes.ensures ∙ count-is c.requires.good_book) ∙ c.if-changes.true)
          c.foretell.ensures;
    }

pub slice_bounds-step-end : goal.slice_bounds-step-end
slice_bounds-step-end c = diary-fits _ c.requires.good_book.laid c.requires.good_book.read c.requires.diary_value

pub slice_bounds-step-end-2 : goal.slice_bounds-step-end-2
slice_bounds-step-end-2 c = sym (length-take-le _ _ (diary-fits _ c.requires.good_book.laid c.requires.good_book.read c.requires.diary_value))

pub step-told-requires : goal.step-told-requires
unfolding reading
step-told-requires c = part-good c.requires.good_book _ c.requires.diary_value

pub returns-then-told-ne0 : goal.returns-then-told-ne0
unfolding reading
returns-then-told-ne0 c =
    record {
      answer = c.step-told.ensures.answer;
      told = c.step-told.ensures.told;
      is = part-refused c.requires.good_book c.requires.diary_value c.args.r c.step-told.ensures.is (told-no c.step-told.ensures.answer c.step-told.ensures.told c.if-told-ne0.true);
    }

pub raise-requires : goal.raise-requires
raise-requires c = record {
  book_nonzero = omega (arith, last_word _ c.requires.good_book.laid, whole_long c.args.book.now c.step-told.new.book c.args.diary (diary-fits _ c.requires.good_book.laid c.requires.good_book.read c.requires.diary_value) c.step-told.auto.book);
  changes_value = ne_eqb _ _ c.if-changes.false;
}

pub returns-then-is_change : goal.returns-then-is_change
unfolding reading
returns-then-is_change c =
    let n = c.count-changes.ensures ∙ count-is c.requires.good_book in
    let done = told-yes c.step-told.ensures.answer c.step-told.ensures.told (part-tellable c.requires.good_book c.requires.diary_value c.args.r c.step-told.ensures.is) c.if-told-ne0.false in
    record {
      answer = c.step-told.ensures.answer;
      told = c.step-told.ensures.told;
      is = ap (answered c.step-told.ensures.answer) c.raise.ensures
          ∙ part-raised c.requires.good_book c.requires.diary_value c.args.r c.step-told.ensures.is n done (sym c.is_change.ensures ∙ c.if-is_change.true) (ne_eqb _ _ c.if-changes.false);
    }

pub returns-else-is_change : goal.returns-else-is_change
unfolding reading
returns-else-is_change c =
    record {
      answer = c.step-told.ensures.answer;
      told = c.step-told.ensures.told;
      is = part_same c.requires.good_book c.requires.diary_value c.args.r c.step-told.ensures.is (sym c.is_change.ensures ∙ c.if-is_change.false);
    }
