-- Rows of zeros.
-- Assumes nothing.
use Prim.Native.Nat.{ℕ, zero, suc, ◌+◌, ◌-◌, ◌*◌, ◌^◌, ◌<◌, ◌≤◌}
use mathlib.Core.Path.{◌≡◌, refl, sym, ◌∙◌, ap}
use mathlib.Core.Bool.{Bool, true, false, ◌&&◌, false≢true}
use mathlib.Core.List.{List, [], ◌∷◌}
use native.Mathlib.Nat.{zero-mul, suc-mul}
use native.Mathlib.Omega.{arith}
use lib.Dec.{eqb, ltb}
use lib.ListN.{length, get_or, take, drop, replicate}
use lib.Bits.{bit_or, or_add_and, and_le_l, and_le_r, or_lt}
use borrow.Author.Tests.{eqb-true, ltb-true, ltb-false}
use Rattle.std.specs.List.{fold, list_all}
use Rattle.std.specs.Simd.{first_chunks}
use Rattle.std.proofs.lemmas.List.{get_or-take, get_or-drop, drop-drop}
use Rattle.rules.specs.Rows.{Guests, Blank}

pub none-zero : (n q : ℕ) → ◌≡◌ {A = ℕ} (get_or (replicate n 0) q 0) 0
none-zero zero q = refl
none-zero (suc n) zero = refl
none-zero (suc n) (suc q) = none-zero n q

-- words or-ed together are 0: each is
or-zero : (a b : ℕ) → bit_or a b ≡ 0 → (a ≡ 0) × (b ≡ 0)
or-zero a b e = (omega (arith, or_add_and a b, and_le_l a b, and_le_r a b), omega (arith, or_add_and a b, and_le_l a b, and_le_r a b))

-- words or-ed together on top of a are 0: a is, and so is each
or_fold-zero : (a : ℕ) (row : List ℕ) → fold bit_or a row ≡ 0 → (a ≡ 0) × Blank row
or_fold-zero a [] e = (e, λ j. refl)
or_fold-zero a (w ∷ row) e =
    let r = or_fold-zero (bit_or a w) row e in
    let z = or-zero a w r.0 in
    (z.0, each z.1 r.1)
  where
    each : w ≡ 0 → Blank row → Blank (w ∷ row)
    each z r zero = z
    each z r (suc j) = r j

pub all-zero : (row : List ℕ) → fold bit_or 0 row ≡ 0 → Blank row
all-zero row e = (or_fold-zero 0 row e).1

-- a word is at most the words or-ed together, which have no more bits than the longest of them
or_fold-start : (a : ℕ) (row : List ℕ) → a ≤ fold bit_or a row
or_fold-start a [] = omega arith
or_fold-start a (w ∷ row) = omega (arith, or_fold-start (bit_or a w) row, or_add_and a w, and_le_r a w)

pub or_fold-le : (a : ℕ) (row : List ℕ) (k : ℕ) → k < length row → get_or row k 0 ≤ fold bit_or a row
or_fold-le a [] k h = absurd (omega arith)
or_fold-le a (w ∷ row) zero h = omega (arith, or_fold-start (bit_or a w) row, or_add_and a w, and_le_l a w)
or_fold-le a (w ∷ row) (suc k) h = or_fold-le (bit_or a w) row k (omega arith)

pub or_fold-lt : (a : ℕ) (row : List ℕ) (m : ℕ) → a < 2 ^ m → ((k : ℕ) → k < length row → get_or row k 0 < 2 ^ m) → fold bit_or a row < 2 ^ m
or_fold-lt a [] m l h = l
or_fold-lt a (w ∷ row) m l h =
    or_fold-lt (bit_or a w) row m (or_lt m a w l (h 0 (omega arith))) (λ k i. h (suc k) (omega arith))

-- a row is 0 whose first k parts of n words are, and what is left
pub parts-zero : (n k : ℕ) (row : List ℕ) → list_all (λ part. eqb (fold bit_or 0 part) 0) (first_chunks n k row) ≡ true
    → fold bit_or 0 (drop (k * n) row) ≡ 0 → Blank row
parts-zero n zero row e z = all-zero row (ap (λ (i : ℕ). fold bit_or 0 (drop i row)) (sym (zero-mul n)) ∙ z)
parts-zero n (suc k) row e z = go (λ f. parts-zero n k (drop n row) f (ap (fold bit_or 0) next ∙ z)) (eqb (fold bit_or 0 (take n row)) 0) refl e
  where
    next : drop (k * n) (drop n row) ≡ drop (suc k * n) row
    next = drop-drop (k * n) n row ∙ ap (λ (i : ℕ). drop i row) (rw suc-mul (omega arith))

    go : (list_all (λ part. eqb (fold bit_or 0 part) 0) (first_chunks n k (drop n row)) ≡ true → Blank (drop n row)) → (b : Bool)
        → eqb (fold bit_or 0 (take n row)) 0 ≡ b
        → b && list_all (λ part. eqb (fold bit_or 0 part) 0) (first_chunks n k (drop n row)) ≡ true → Blank row
    go r false q f = λ j. absurd (false≢true f)
    go r true q f = λ j. pick j (ltb j n) refl
      where
        pick : (j : ℕ) (t : Bool) → ltb j n ≡ t → get_or row j 0 ≡ 0
        pick j true p = sym (get_or-take n row j 0 (ltb-true j n p)) ∙ all-zero (take n row) (eqb-true _ 0 q) j
        pick j false p =
            let at : n + (j - n) ≡ j = let l : n ≤ j = ltb-false j n p in omega arith in
            ap (λ (i : ℕ). get_or row i 0) (sym at) ∙ sym (get_or-drop n row (j - n) 0) ∙ r f (j - n)

-- no guest in a row of zeros
pub blank-guests : (row : List ℕ) (limit : ℕ) (t : List Bool) → get_or t 0 false ≡ false → Blank row → Guests row limit t
blank-guests row limit t e z =
    record {
      range = λ i h. omega (arith, z i);
      free = λ i h. ap (λ (k : ℕ). get_or t k false) (z i) ∙ e;
      once = λ i j l h q. z i;
    }
