-- One pass over a row of guests: those seen are barred from then on.
-- Assumes nothing.
use Prim.Native.Nat.{ℕ, zero, suc, ◌+◌, ◌≤◌, ◌<◌}
use mathlib.Core.Path.{◌≡◌, refl, sym, ◌∙◌, ap, ap₂}
use mathlib.Core.Bool.{Bool, true, false, not, ◌||◌, true≢false, false≢true}
use mathlib.Core.List.{List, [], ◌∷◌}
use native.Mathlib.Decide.{ℕ_discrete}
use native.Mathlib.Numerals.{add-one}
use native.Mathlib.Omega.{arith}
use lib.Dec.{eqb}
use lib.ListN.{length, get_or, set, drop, length-set, drop_of_length-le}
use lib.Seq.{get_or-set_same, get_or-set_other, drop-cons}
use borrow.Author.Tests.{eqb-true, eq-eqb, ne_eqb}
use Rattle.rules.specs.Rows.{Marked, Free}

-- the table after a cell: its guest is barred, but 0 is no guest
abbrev pub mark : List Bool → ℕ → List Bool
mark seen w = set seen w (not (eqb w 0))

-- a pass over a row: those seen are barred from then on
abbrev pub pass : List ℕ → List Bool → Bool → Bool
pass [] seen bad = not bad
pass (w ∷ row) seen bad = pass row (mark seen w) (bad || get_or seen w false)

-- the code's mark of a cell: entry w is set and entry 0 cleared again
pub mark-is : (seen : List Bool) (w : ℕ) → get_or seen 0 false ≡ false → 0 < length seen → set (set seen w true) 0 false ≡ mark seen w
mark-is [] w e h = absurd (omega arith)
mark-is (x ∷ xs) zero e h = refl
mark-is (x ∷ xs) (suc w) e h = ap₂ (λ (b c : Bool). b ∷ set xs w c) (sym e) (sym (ap not (ne_eqb (suc w) 0 (λ q. omega (arith, q)))))

pub mark-none : (seen : List Bool) (w : ℕ) → w < length seen → get_or seen 0 false ≡ false → get_or (mark seen w) 0 false ≡ false
mark-none seen zero l e = get_or-set_same seen 0 false false l
mark-none seen (suc w) l e = get_or-set_other seen (suc w) 0 _ false (λ q. omega (arith, q)) ∙ e

-- what was barred before the cell still is
pub mark-more : (before seen : List Bool) (w : ℕ) → w < length seen → Marked before seen → Marked before (mark seen w)
mark-more before seen w l m v h e = go (ℕ_discrete v w)
  where
    go : Dec (v ≡ w) → get_or (mark seen w) v false ≡ true
    go (yes q) =
        ap (λ (k : ℕ). get_or (mark seen w) k false) q ∙ get_or-set_same seen w (not (eqb w 0)) false l
        ∙ ap not (ne_eqb w 0 (λ z. omega (arith, z, q, h)))
    go (no q) = get_or-set_other seen w v (not (eqb w 0)) false q ∙ m v h e

pass-bad : (row : List ℕ) (seen : List Bool) → pass row seen true ≡ false
pass-bad [] seen = refl
pass-bad (w ∷ row) seen = pass-bad row (mark seen w)

-- the cell at i
pub pass-more : (row : List ℕ) (seen : List Bool) (bad : Bool) (i : ℕ) → i < length row
    → pass (drop i row) seen bad ≡ pass (drop (i + 1) row) (mark seen (get_or row i 0)) (bad || get_or seen (get_or row i 0) false)
pass-more row seen bad i h = rw (drop-cons row i 0 h, add-one)

pub pass-end : (row : List ℕ) (seen : List Bool) (bad : Bool) (i : ℕ) → length row ≤ i → not bad ≡ pass (drop i row) seen bad
pass-end row seen bad i h = rw (drop_of_length-le row {i = i} h)

nonzero : (w : ℕ) → not (eqb w 0) ≡ false → w ≡ 0
nonzero w e = go (eqb w 0) refl e
  where
    go : (b : Bool) → eqb w 0 ≡ b → not b ≡ false → w ≡ 0
    go true q f = eqb-true w 0 q
    go false q f = absurd (true≢false f)

-- after the first cell
module _ (seen : List Bool) (w u : ℕ) (l : w < length seen) where
  next-free : get_or seen w false ≡ false → get_or (mark seen w) u false ≡ false → (get_or seen u false ≡ false) × (u ≡ w → w ≡ 0)
  next-free f h = go (ℕ_discrete u w)
    where
      go : Dec (u ≡ w) → (get_or seen u false ≡ false) × (u ≡ w → w ≡ 0)
      go (yes e) = (
        ap (λ (k : ℕ). get_or seen k false) e ∙ f,
        λ q. nonzero w
            (sym (get_or-set_same seen w (not (eqb w 0)) false l) ∙ ap (λ (k : ℕ). get_or (mark seen w) k false) (sym e) ∙ h),
      )
      go (no n) = (sym (get_or-set_other seen w u (not (eqb w 0)) false n) ∙ h, λ q. absurd (n q))

  free-next : get_or seen u false ≡ false → (u ≡ w → w ≡ 0) → get_or (mark seen w) u false ≡ false
  free-next h g = go (ℕ_discrete u w)
    where
      go : Dec (u ≡ w) → get_or (mark seen w) u false ≡ false
      go (yes e) =
          ap (λ (k : ℕ). get_or (mark seen w) k false) e ∙ get_or-set_same seen w (not (eqb w 0)) false l ∙ ap not (eq-eqb w 0 (g e))
      go (no n) = get_or-set_other seen w u (not (eqb w 0)) false n ∙ h

-- every cell has an entry
abbrev Inside : List ℕ → List Bool → Type 0
Inside row seen = (i : ℕ) → i < length row → get_or row i 0 < length seen

rest : (w : ℕ) (row : List ℕ) (seen : List Bool) → Inside (w ∷ row) seen → Inside row (mark seen w)
rest w row seen h i l = omega (arith, h (suc i) (omega arith), length-set seen w (not (eqb w 0)))

pub says : (row : List ℕ) (seen : List Bool) → Inside row seen → pass row seen false ≡ true → Free row seen
says [] seen h e = record { free = λ i l. absurd (omega arith); once = λ i j l m q. absurd (omega arith) }
says (w ∷ row) seen h e = go (says row (mark seen w) (rest w row seen h)) (get_or seen w false) refl e
  where
    l : w < length seen
    l = h 0 (omega arith)

    go : (pass row (mark seen w) false ≡ true → Free row (mark seen w)) → (f : Bool) → get_or seen w false ≡ f → pass row (mark seen w) f ≡ true
        → Free (w ∷ row) seen
    go rec true g e = absurd (false≢true (sym (pass-bad row (mark seen w)) ∙ e))
    go rec false g e = record { free = free (rec e); once = once (rec e) }
      where
        free : Free row (mark seen w) → (i : ℕ) → i < suc (length row) → get_or seen (get_or (w ∷ row) i 0) false ≡ false
        free r zero m = g
        free r (suc i) m = (next-free seen w (get_or row i 0) l g (r.free i (omega arith))).0

        once : Free row (mark seen w) → (i j : ℕ) → i < j → j < suc (length row) → get_or (w ∷ row) i 0 ≡ get_or (w ∷ row) j 0 → get_or (w ∷ row) i 0 ≡ 0
        once r i zero m k q = absurd (omega arith)
        once r zero (suc j) m k q = (next-free seen w (get_or row j 0) l g (r.free j (omega arith))).1 (sym q)
        once r (suc i) (suc j) m k q = r.once i j (omega arith) (omega arith) q

pub said : (row : List ℕ) (seen : List Bool) → Inside row seen → Free row seen → pass row seen false ≡ true
said [] seen h r = refl
said (w ∷ row) seen h r =
    rw (r.free 0 (omega arith))
    (said row (mark seen w) (rest w row seen h)
    (record {
      free = λ i m. free-next seen w (get_or row i 0) (h 0 (omega arith)) (r.free (suc i) (omega arith))
          (λ q. r.once 0 (suc i) (omega arith) (omega arith) (sym q));
      once = λ i j m k q. r.once (suc i) (suc j) (omega arith) (omega arith) q;
    }))
