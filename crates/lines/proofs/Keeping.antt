-- What is held of a line.
-- Assumes nothing.
use Prim.Native.Nat.{ℕ, zero, suc, ◌+◌, ◌-◌, ◌≤◌, min}
use native.Mathlib.Numerals.{add-one}
use native.Mathlib.Nat.{min_comm}
use native.Mathlib.Omega.{arith}
use Rattle.std.proofs.lemmas.List.{take_min}
use mathlib.Core.Path.{◌≡◌, refl, sym, ◌∙◌, ap, subst}
use mathlib.Core.List.{List, [], ◌∷◌, ◌++◌}
use lib.ListN.{length, take, set}
use lib.Seq.{take-append-add, take-suc-set, length-take-le}
use Rattle.lines.specs.Stream.{held_most, kept}
use Rattle.text.specs.Put.{Put}
use Rattle.framing.specs.Front.{Free}
use Rattle.lines.specs.Post.{held_of, Holds}
use Rattle.lines.specs.declared.stream.Held.{Held}

take-front : (n : ℕ) (a b : List ℕ) → take n (take n a ++ b) ≡ take n (a ++ b)
take-front zero a b = refl
take-front (suc n) [] b = refl
take-front (suc n) (x ∷ a) b = ap (λ (l : List ℕ). x ∷ l) (take-front n a b)

-- more behind what is kept
pub kept_append : (a b : List ℕ) → kept (kept a ++ b) ≡ kept (a ++ b)
kept_append a b = take-front held_most a b

-- as many bytes as fit
pub kept-is : (h p : List ℕ) → length h ≤ held_most → h ++ take (min (length p) (held_most - length h)) p ≡ kept (h ++ p)
kept-is h p l =
    let e : length h + (held_most - length h) ≡ held_most = omega arith in
    ap (λ (k : List ℕ). h ++ k) (ap (λ (n : ℕ). take n p) (min_comm (length p) (held_most - length h)) ∙ take_min (held_most - length h) p)
    ∙ sym (take-append-add h p (held_most - length h))
    ∙ ap (λ (n : ℕ). take n (h ++ p)) e

-- no byte 10 in what is kept
pub free-join : (a b : List ℕ) → Free a → Free b → Free (a ++ b)
unfolding Free
free-join [] b f g = g
free-join (x ∷ a) b f g = (f.0, free-join a b f.1 g)

free-take : (n : ℕ) (l : List ℕ) → Free l → Free (take n l)
unfolding Free
free-take zero l f = tt
free-take (suc n) [] f = tt
free-take (suc n) (x ∷ l) f = (f.0, free-take n l f.1)

-- the bytes that are held, by themselves
pub holds-own : {h : Held} {l : List ℕ} → Holds h l → Holds h (held_of h)
holds-own k = record { long = k.long; few = k.few; free = subst Free (sym k.same) k.free; same = refl }

-- a piece written behind what is held
pub held_more : {held next : Held} (piece : List ℕ) (n : ℕ) → Holds held (held_of held) → Free piece → n ≡ min (length piece) (held_most - held.len)
    → next.len ≡ held.len + n → Put held.bytes next.bytes held.len (take n piece) → Holds next (kept (held_of held ++ piece))
held_more {held} {next} piece n h f en el p =
    let few : held.len ≤ held_most = h.few in
    let long : length held.bytes ≡ held_most + 1 = h.long in
    let t : length (held_of held) ≡ held.len = length-take-le held.len held.bytes (omega arith) in
    let k : length (take n piece) ≡ n = length-take-le n piece (omega arith) in
    let c : n ≡ min (length piece) (held_most - length (held_of held)) = omega arith in
    record {
      long = p.kept ∙ long;
      few = omega arith;
      free = free-take held_most (held_of held ++ piece) (free-join (held_of held) piece h.free f);
      same =
          ap (λ (m : ℕ). take m next.bytes) (el ∙ ap (λ (m : ℕ). held.len + m) (sym k))
          ∙ p.wrote
          ∙ ap (λ (m : ℕ). held_of held ++ take m piece) c
          ∙ kept-is (held_of held) piece (omega arith);
    }

-- byte 10 behind what is held
pub ended-bytes : (h : Held) → Holds h (held_of h) → take (h.len + 1) (set h.bytes h.len 10) ≡ held_of h ++ (10 ∷ [])
ended-bytes h k =
    ap (λ (n : ℕ). take n (set h.bytes h.len 10)) (add-one h.len)
    ∙ take-suc-set h.bytes h.len 10 (omega (arith, k.few, k.long))
