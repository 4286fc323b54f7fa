-- `join`: all guests are added and the count raised once, or every word is as it was.
-- Assumes nothing.
use mathlib.Core.Path.{sym, ◌∙◌, ap}
use native.Mathlib.Omega.{arith}
use lib.Seq.{length-take-le, length_front}
use borrow.Author.Tests.{ne_eqb}
use Rattle.model.proofs.Answers.{err-is}
use Rattle.model.proofs.Ledger.{diary-fits, last_word}
use Rattle.book.specs.Lent.{reading}
use Rattle.book.specs.Good.{answered}
use Rattle.book.proofs.Goods.{good-laid, good-part, part-good}
use Rattle.parties.proofs.Joining.{party-refused, party-full, party-done}
use Rattle.parties.proofs.join.Goals as goal

pub diary_len-diary-requires : goal.diary_len-diary-requires
diary_len-diary-requires c = (good-laid (good-part c.requires.good_book)).ranges

pub count-changes-requires : goal.count-changes-requires
count-changes-requires c = last_word _ c.requires.good_book.laid

pub slice_bounds-add_guests-end : goal.slice_bounds-add_guests-end
slice_bounds-add_guests-end c =
    let g = c.requires.good_book in
    diary-fits _ g.laid g.read c.diary_len-diary.ensures

pub slice_bounds-add_guests-end-2 : goal.slice_bounds-add_guests-end-2
slice_bounds-add_guests-end-2 c =
    let g = c.requires.good_book in
    sym (length-take-le _ _ (diary-fits _ g.laid g.read c.diary_len-diary.ensures))

pub add_guests-requires : goal.add_guests-requires
unfolding reading
add_guests-requires c = record { good = part-good c.requires.good_book _ c.diary_len-diary.ensures }

pub returns-in_err-add_guests : goal.returns-in_err-add_guests
unfolding reading
returns-in_err-add_guests c =
    rw (err-is _ c.from_residual.ensures.1) (party-refused c.requires.good_book c.diary_len-diary.ensures _ _ c.in_err-add_guests.ensures)

-- what is written is as long as what was there, so the first part can be lent again, and the last word is there
pub slice_bounds-take_back-end : goal.slice_bounds-take_back-end
slice_bounds-take_back-end c =
    let g = c.requires.good_book in
    let fits = diary-fits _ g.laid g.read c.diary_len-diary.ensures in
    omega (arith, fits, length_front c.args.book.now _ c.diary_len-diary.result c.add_guests.auto.diary)

pub slice_bounds-take_back-end-then-changes : goal.slice_bounds-take_back-end-then-changes
slice_bounds-take_back-end-then-changes c =
    let g = c.requires.good_book in
    let fits = diary-fits _ g.laid g.read c.diary_len-diary.ensures in
    sym (length-take-le _ _ (omega (arith, fits, length_front c.args.book.now _ c.diary_len-diary.result c.add_guests.auto.diary)))

pub returns-then-changes : goal.returns-then-changes
unfolding reading
returns-then-changes c =
    rw c.refused.ensures
    (party-full c.requires.good_book c.diary_len-diary.ensures _ _ c.in_ok-add_guests.ensures c.count-changes.ensures c.if-changes.true
    c.take_back.ensures)

pub raise-requires-clause-book_nonzero : goal.raise-requires-clause-book_nonzero
raise-requires-clause-book_nonzero c =
    omega (arith, last_word _ c.requires.good_book.laid, length_front c.args.book.now _ c.diary_len-diary.result c.add_guests.auto.diary)

pub returns : goal.returns
unfolding reading
returns c =
    ap (answered _) c.raise.ensures
    ∙ party-done c.requires.good_book c.diary_len-diary.ensures _ _ c.in_ok-add_guests.ensures c.count-changes.ensures
    (ne_eqb _ _ c.if-changes.false)
