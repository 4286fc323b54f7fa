-- `puts::put_word`: the word at the cell's place.
-- Assumes nothing.
use Prim.Native.Nat.{ℕ}
use mathlib.Core.Path.{ap}
use lib.ListN.{set, length-set}
use Rattle.book.specs.Grids.{place}
use Rattle.book.specs.Lent.{reading}
use Rattle.book.specs.Stores.{replaced}
use Rattle.book.proofs.Turns.{wrote_by}
use Rattle.book.proofs.puts.put_word.Goals as goal

pub returns : goal.returns
unfolding reading replaced
returns c =
    let a = c.args in
    wrote_by (replaced a.g a.w a.slot a.item) a.book.now _ (ap (λ (n : ℕ). set a.book.now n a.w) c.at-n.ensures.at)
    (length-set a.book.now (place a.g a.slot a.item 0) a.w)
