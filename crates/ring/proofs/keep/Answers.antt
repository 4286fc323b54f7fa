-- The entry, and the place after it.
-- Assumes nothing.
use Prim.Native.Nat.{ℕ}
use mathlib.Core.Path.{◌∙◌, ap, ap₂}
use mathlib.Core.List.{List}
use lib.ListN.{length, set}
use Rattle.model.specs.Tail.{ring_length}
use Rattle.ring.specs.Stores.{entry_kept_at}
use Rattle.ring.proofs.Entries.{put-long}
use native.Mathlib.Omega.{arith}
use Rattle.model.specs.Tail.{tail_length}
use Rattle.ring.proofs.keep.Goals as goal

pub bounds-tail-704 : goal.bounds-tail-704
unfolding tail_length
bounds-tail-704 c = omega (arith, c.requires.tail_len, c.requires.ring_length_bound)

pub put_entry-requires : goal.put_entry-requires
unfolding tail_length
put_entry-requires c = omega (arith, c.requires.tail_len, c.requires.ring_length_bound)

pub bounds-tail-704-2 : goal.bounds-tail-704-2
unfolding tail_length
bounds-tail-704-2 c = omega (arith, ap length c.put_entry.ensures ∙ put-long _ _ _ _ _ _ _, c.requires.tail_len, c.requires.ring_length_bound)

pub returns : goal.returns
unfolding entry_kept_at
returns c = ap₂ (λ (w : List ℕ) (n : ℕ). set w ring_length n) c.put_entry.ensures c.place_after.ensures
