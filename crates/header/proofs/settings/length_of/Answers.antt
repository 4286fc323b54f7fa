-- The diary, and what stands behind it.
-- Assumes nothing.
use native.Mathlib.Omega.{arith}
use Rattle.model.specs.Tail.{tail_length}
use Rattle.model.specs.Ledger.{behind_length, book_length}
use Rattle.book.proofs.Regions.{book-le}
use Rattle.header.proofs.settings.length_of.Goals as goal

pub overflow_add-result : goal.overflow_add-result
overflow_add-result c = omega (arith, c.diary_len.ensures, book-le c.args.s c.requires)

pub returns : goal.returns
unfolding book_length behind_length tail_length
returns c = omega (arith, c.diary_len.ensures)
