-- `told_step`: an order that is kept is answered from the ring; else the request without an order, and its answer kept in the ring.
-- Assumes nothing.
use mathlib.Core.Path.{◌∙◌, ap, ap₂}
use native.Mathlib.Omega.{arith}
use Rattle.model.specs.Answers.{Answer}
use Rattle.model.specs.Tail.{Tail, entry_at, noted, tail_words}
use Rattle.model.specs.Ledger.{ledger_of}
use Rattle.model.specs.Machine.{kept_answer}
use Rattle.model.proofs.Tail.{kept-place}
use Rattle.model.proofs.Ledger.{diary-fits, tail-fits, last_word}
use Rattle.ring.proofs.Telling.{told-answer, told_is}
use Rattle.step.proofs.Kept.{tail-long, tail-is, found-kept, found_none, kept-answered, again-long, again_kept, again-is, again-tellable, order-noted}
use Rattle.step.proofs.told_step.Goals as goal

pub overflow_sub-last : goal.overflow_sub-last
overflow_sub-last c = last_word _ c.requires.good_book.laid

pub offset_bounds-book-diary : goal.offset_bounds-book-diary
offset_bounds-book-diary c = omega (arith, diary-fits _ c.requires.good_book.laid c.requires.good_book.read c.requires.diary_value)

pub slice_bounds-find-count : goal.slice_bounds-find-count
slice_bounds-find-count c = tail-fits _ c.requires.good_book.laid c.requires.good_book.read c.requires.diary_value

pub slice_bounds-find-start : goal.slice_bounds-find-start
slice_bounds-find-start c = tail-fits _ c.requires.good_book.laid c.requires.good_book.read c.requires.diary_value

pub find-requires : goal.find-requires
find-requires c = tail-long c.requires.good_book c.requires.diary_value

pub offset_bounds-book-diary-in-Some : goal.offset_bounds-book-diary-in-Some
offset_bounds-book-diary-in-Some c = omega (arith, diary-fits _ c.requires.good_book.laid c.requires.good_book.read c.requires.diary_value)

pub slice_bounds-answer_to-count : goal.slice_bounds-answer_to-count
slice_bounds-answer_to-count c = tail-fits _ c.requires.good_book.laid c.requires.good_book.read c.requires.diary_value

pub slice_bounds-answer_to-start : goal.slice_bounds-answer_to-start
slice_bounds-answer_to-start c = tail-fits _ c.requires.good_book.laid c.requires.good_book.read c.requires.diary_value

pub answer_to-requires : goal.answer_to-requires
answer_to-requires c = record {
  tail_len = tail-long c.requires.good_book c.requires.diary_value;
  place_lt_ring_places = kept-place (ledger_of c.args.book.now).tail c.args.order
      (found-kept c.requires.good_book c.requires.diary_value c.args.order c.find.ensures c.in-Some.is);
}

pub returns-in-Some : goal.returns-in-Some
returns-in-Some c =
    record {
      answer = c.answer_to.result;
      told = c.into.ensures;
      is = kept-answered c.requires.good_book c.args.order c.args.r
          (found-kept c.requires.good_book c.requires.diary_value c.args.order c.find.ensures c.in-Some.is)
          (c.answer_to.ensures ∙ ap (λ (t : Tail). kept_answer (entry_at t c.in-Some.place) c.args.r) (tail-is c.requires.good_book c.requires.diary_value));
    }

pub offset_bounds-book-diary-2 : goal.offset_bounds-book-diary-2
offset_bounds-book-diary-2 c = omega (arith, diary-fits _ c.requires.good_book.laid c.requires.good_book.read c.requires.diary_value)

pub slice_bounds-note-count : goal.slice_bounds-note-count
slice_bounds-note-count c = tail-fits _ c.requires.good_book.laid c.requires.good_book.read c.requires.diary_value

pub slice_bounds-note-start : goal.slice_bounds-note-start
slice_bounds-note-start c = tail-fits _ c.requires.good_book.laid c.requires.good_book.read c.requires.diary_value

pub slice_bounds-note-end : goal.slice_bounds-note-end
slice_bounds-note-end c = omega (arith, c.counted_step-told.auto.book)

pub note-requires : goal.note-requires
note-requires c = record {
  tail_len = again-long c.requires.good_book c.requires.diary_value c.args.r c.counted_step-told.ensures.is;
  tail_value = again_kept c.requires.good_book c.requires.diary_value c.args.r c.counted_step-told.ensures.is;
  t_value = told_is c.counted_step-told.ensures.answer c.counted_step-told.ensures.told (again-tellable c.requires.good_book c.requires.diary_value c.args.r c.counted_step-told.ensures.is);
}

pub returns : goal.returns
returns c =
    let h = again-tellable c.requires.good_book c.requires.diary_value c.args.r c.counted_step-told.ensures.is in
    record {
      answer = c.counted_step-told.ensures.answer;
      told = c.counted_step-told.ensures.told;
      is = order-noted c.requires.good_book c.requires.diary_value c.args.r c.counted_step-told.ensures.is c.args.order
          (found_none c.requires.good_book c.requires.diary_value c.args.order c.find.ensures c.in_default.is)
          (c.note.ensures
          ∙ ap₂ (λ (t : Tail) (a : Answer). tail_words (noted t c.args.order c.args.r a)) (again-is c.requires.good_book c.requires.diary_value c.args.r c.counted_step-told.ensures.is) (told-answer c.counted_step-told.ensures.answer c.counted_step-told.ensures.told h));
    }
