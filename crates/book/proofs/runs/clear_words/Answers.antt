-- `runs::clear_words`: the words before n are cleared.
-- Assumes nothing.
use Prim.Native.Nat.{ℕ, ◌+◌}
use mathlib.Core.Path.{sym, ◌∙◌, ap}
use lib.ListN.{set}
use Rattle.book.specs.Stores.{over, zeroed}
use Rattle.book.proofs.Turns.{over-turn}
use Rattle.book.proofs.runs.clear_words.Goals as goal

pub loop-n-preserved : goal.loop-n-preserved
unfolding zeroed
loop-n-preserved c =
    let a = c.args in
    ap (λ (x : ℕ). over (zeroed a.w) (c.loop-n.n + 1) a.run.end (set c.loop-n.book c.loop-n.n x)) c.unless.ensures
    ∙ sym (over-turn (zeroed a.w) c.loop-n.n a.run.end c.loop-n.book c.loop-n-test.true)
    ∙ c.loop-n.invariant
