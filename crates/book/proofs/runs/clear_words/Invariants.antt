-- `runs::clear_words`: the words before n are cleared.
-- Assumes nothing.
use mathlib.Core.Path.{◌≡◌}
use Rattle.book.specs.Stores.{over, zeroed}
use Rattle.book.proofs.runs.clear_words.Given as goal

abbrev pub invariant-loop-n : goal.invariant-loop-n
invariant-loop-n l = over (zeroed l.w) l.n l.n-end l.book ≡ over (zeroed l.w) l.fn.run.start l.fn.run.end l.initial.book
