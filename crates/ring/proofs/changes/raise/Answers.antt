-- `changes::raise`: a word that is not the greatest has one more.
-- Assumes nothing.
use Prim.Native.Nat.{ℕ, ◌<◌}
use mathlib.Core.Path.{◌≡◌, refl}
use mathlib.Core.Bool.{Bool, true, false}
use native.Mathlib.Omega.{arith}
use lib.Dec.{ltb, eqb}
use borrow.Author.Tests.{ltb-true, ltb-false, eqb-false}
use Rattle.ring.proofs.changes.raise.Goals as goal

below : (n : ℕ) → n < 4294967296 → eqb n 4294967295 ≡ false → n < 4294967295
below n h e = go (ltb n 4294967295) refl
  where
    go : (t : Bool) → ltb n 4294967295 ≡ t → n < 4294967295
    go true q = ltb-true n 4294967295 q
    go false q = absurd (eqb-false n 4294967295 e (omega (arith, h, ltb-false n 4294967295 q)))

pub overflow_add-book : goal.overflow_add-book
overflow_add-book c = let h : c.args.changes < 4294967296 = omega (arith, c.ranges) in omega (arith, below c.args.changes h c.requires.changes_value)
