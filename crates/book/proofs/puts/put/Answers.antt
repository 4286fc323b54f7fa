-- `puts::put`: the words at the cell's place.
-- Assumes nothing.
use Prim.Native.Nat.{ℕ}
use mathlib.Core.Path.{◌∙◌, ap}
use Rattle.book.specs.Lent.{reading}
use Rattle.book.specs.Stores.{puts, stored}
use Rattle.book.proofs.Turns.{wrote_by}
use Rattle.book.proofs.Sweeps.{length-stored}
use Rattle.book.proofs.puts.put.Goals as goal

pub returns : goal.returns
unfolding reading stored
returns c =
    let a = c.args in
    wrote_by (stored a.g a.c a.slot a.item) a.book.now _
    (c.store.ensures ∙ ap (λ (n : ℕ). puts a.c n a.g.width a.book.now) c.at-n.ensures.at)
    (length-stored a.g a.c a.slot a.item a.book.now)
