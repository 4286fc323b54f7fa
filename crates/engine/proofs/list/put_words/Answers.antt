-- `list::put_words`: three words in the place of three.
-- Assumes nothing.
use Prim.Native.Nat.{ℕ, ◌+◌, ◌*◌}
use mathlib.Core.Path.{ap₂}
use mathlib.Core.List.{List, ◌++◌}
use native.Mathlib.Omega.{arith}
use lib.ListN.{take}
use borrow.Rule.Slice.PartMut.{Post-is}
use Rattle.engine.specs.Lists.{spliced}
use Rattle.engine.proofs.list.put_words.Goals as goal

pub returns : goal.returns
unfolding spliced
returns c =
    let at = c.args.i * 3 in
    let l = c.args.answers.now in
    ap₂ (λ (ws rest : List ℕ). take at l ++ (ws ++ rest)) c.copy_from_slice.ensures.after (Post-is at (at + 3) l (omega arith))
