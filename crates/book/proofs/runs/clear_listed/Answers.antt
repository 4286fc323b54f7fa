-- `runs::clear_listed`: the blocks at the places passed are cleared.
-- Assumes nothing.
use Prim.Native.Nat.{◌+◌}
use mathlib.Core.Path.{sym, ◌∙◌, ap}
use lib.ListN.{length}
use Rattle.book.specs.Stores.{over, block_zeroed}
use Rattle.book.proofs.Turns.{over-turn}
use Rattle.book.proofs.runs.clear_listed.Goals as goal

pub loop-at-preserved : goal.loop-at-preserved
unfolding block_zeroed
loop-at-preserved c =
    let a = c.args in
    let i = c.loop-at.at-index in
    ap (over (block_zeroed a.w a.places.now) (i + 1) (length a.places.now)) c.clear_words.ensures
    ∙ sym (over-turn (block_zeroed a.w a.places.now) i (length a.places.now) c.loop-at.book c.loop-at-test.true)
    ∙ c.loop-at.invariant
