-- Eleven words in one write.
-- Assumes nothing.
use Prim.Native.Nat.{ℕ, ◌+◌, ◌-◌}
use mathlib.Core.Path.{◌≡◌, sym, ◌∙◌, ap}
use mathlib.Core.List.{List, [], ◌∷◌, ◌++◌, append_assoc}
use native.Mathlib.Omega.{arith}
use lib.ListN.{take, drop}
use lib.Seq.{drop-drop}
use borrow.Rule.Slice.PartMut.{put_mid}
use Rattle.std.proofs.lemmas.List.Edits.{sets-eq}
use Rattle.ring.proofs.Entries.{put-sets}
use Rattle.ring.proofs.put_entry.Goals as goal

pub returns : goal.returns
returns c =
    let r = c.args.r in
    let t = c.args.t in
    let tail = c.args.tail.now in
    let at = c.args.at in
    let words : List ℕ = c.args.order ∷ r.kind ∷ r.a ∷ r.b ∷ r.first ∷ r.last ∷ r.n ∷ r.info ∷ t.number ∷ t.place ∷ t.value ∷ [] in
    let n : at + 11 - at ≡ 11 = omega arith in
    ap (put_mid at (at + 11 - at) tail) c.copy_from_slice.ensures.after
    ∙ rw n
    (ap (λ (l : List ℕ). take at tail ++ (words ++ l)) (drop-drop 11 at tail)
    ∙ sym (append_assoc (take at tail) words (drop (at + 11) tail))
    ∙ sym (put-sets tail at c.args.order r t.number t.place t.value ∙ sets-eq words tail at c.requires))
