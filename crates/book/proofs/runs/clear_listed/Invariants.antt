-- `runs::clear_listed`: the blocks at the places passed are cleared.
-- Assumes nothing.
use mathlib.Core.Path.{◌≡◌}
use lib.ListN.{length}
use Rattle.book.specs.Stores.{over, block_zeroed}
use Rattle.book.proofs.runs.clear_listed.Given as goal

abbrev pub invariant-loop-at : goal.invariant-loop-at
invariant-loop-at l =
    over (block_zeroed l.w l.places) l.at-index (length l.places) l.book ≡ over (block_zeroed l.w l.places) 0 (length l.places) l.initial.book
