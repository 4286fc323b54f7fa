-- `list::answer_all`: what is left of the list gives the rest.
-- Assumes nothing.
use Rattle.book.specs.Good.{GoodBook}
use Rattle.engine.proofs.Splices.{Left}
use Rattle.engine.proofs.list.answer_all.Given as goal

abbrev pub invariant-loop-i : goal.invariant-loop-i
invariant-loop-i l = GoodBook l.s l.book × Left l.width l.list l.n l.initial.book l.initial.answers l.i l.book l.answers
