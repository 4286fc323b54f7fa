-- Tables of bits: what they say of the row that they were made from.
-- Assumes nothing.
use Prim.Native.Nat.{ℕ, zero, suc, ◌+◌, ◌/◌, ◌%◌, ◌^◌, ◌≤◌, ◌<◌}
use mathlib.Core.Path.{◌≡◌, refl, sym, ◌∙◌, ap}
use mathlib.Core.Bool.{Bool, true, false, not, ◌||◌, cond}
use mathlib.Core.List.{List}
use native.Mathlib.Decide.{ℕ_discrete}
use native.Mathlib.Nat.{div-eq_of_lt}
use native.Mathlib.Numerals.{add-one}
use native.Mathlib.Omega.{arith}
use lib.Dec.{eqb}
use lib.ListN.{get_or}
use lib.Bits.{bit_or, or_shr, or_mod}
use borrow.Author.Tests.{not-false}
use lib.Pow.{pow_pos}
use Rattle.model.specs.Bounded.{bit, any}
use Rattle.model.proofs.Search.{bool_eq, any-true, true-any}
use Rattle.rules.specs.Rows.{Barred, Most, ors}
use Rattle.pool.specs.Pool.{member}

pub most-low : (t : List Bool) (n limit : ℕ) (m : List ℕ) → Most t n limit m → (v : ℕ) → v < n → get_or m v 0 ≤ limit
most-low t n limit m b v h = omega (arith, b v h, fits (get_or t (suc v) false))
  where
    fits : (b : Bool) → cond b 0 limit ≤ limit
    fits true = omega arith
    fits false = omega arith

-- the words or-ed so far
pub ors-none : (f : ℕ → ℕ) → 0 ≡ ors f 0
unfolding ors
ors-none f = refl

pub ors-more : (f : ℕ → ℕ) (n : ℕ) → bit_or (ors f n) (f n) ≡ ors f (n + 1)
unfolding ors
ors-more f n = sym (ap (ors f) (add-one n))

bit-or : (a b k : ℕ) → bit (bit_or a b) k ≡ bit a k || bit b k
bit-or a b k =
    ap (λ (x : ℕ). eqb (x % 2) 1) (or_shr a b k)
    ∙ ap (λ (x : ℕ). eqb x 1) (or_mod (a / 2 ^ k) (b / 2 ^ k) 1)
    ∙ go (a / 2 ^ k % 2) (b / 2 ^ k % 2) (omega arith) (omega arith)
  where
    go : (x y : ℕ) → x < 2 → y < 2 → eqb (bit_or x y) 1 ≡ eqb x 1 || eqb y 1
    go zero zero h l = refl
    go zero (suc zero) h l = refl
    go (suc zero) zero h l = refl
    go (suc zero) (suc zero) h l = refl
    go (suc (suc x)) y h l = absurd (omega arith)
    go zero (suc (suc y)) h l = absurd (omega arith)
    go (suc zero) (suc (suc y)) h l = absurd (omega arith)

-- bits of words or-ed together
pub bit-ors : (f : ℕ → ℕ) (n k : ℕ) → bit (ors f n) k ≡ any (λ p. bit (f p) k) n
unfolding ors
bit-ors f zero k = ap (λ (d : ℕ). eqb (d % 2) 1) (div-eq_of_lt {n = 0} {m = 2 ^ k} (pow_pos k))
bit-ors f (suc n) k =
    bit-or (ors f n) (f n) k ∙ ap (λ (b : Bool). b || bit (f n) k) (bit-ors f n k)
    ∙ bool_eq (any (λ p. bit (f p) k) n || bit (f n) k) (any (λ p. bit (f p) k) (suc n))
    (λ e. go (any (λ p. bit (f p) k) n) refl e)
    (λ e. let w = any-true (λ p. bit (f p) k) (suc n) e in back w.0 w.1 w.2 (ℕ_discrete w.0 n))
  where
    go : (b : Bool) → any (λ p. bit (f p) k) n ≡ b → b || bit (f n) k ≡ true → any (λ p. bit (f p) k) (suc n) ≡ true
    go true q e = let w = any-true (λ p. bit (f p) k) n q in true-any (λ p. bit (f p) k) (suc n) w.0 (omega (arith, w.1)) w.2
    go false q e = true-any (λ p. bit (f p) k) (suc n) n (omega arith) e

    or-true : (b : Bool) → b || true ≡ true
    or-true true = refl
    or-true false = refl

    back : (p : ℕ) → p < suc n → bit (f p) k ≡ true → Dec (p ≡ n) → any (λ p. bit (f p) k) n || bit (f n) k ≡ true
    back p h e (yes q) = rw (ap f (sym q), e) (or-true (any (λ p. bit (f p) k) n))
    back p h e (no q) = rw (true-any (λ p. bit (f p) k) n p (omega (arith, q)) e)

-- a table of the first n bits is one of the first m
pub table-less : (row : List ℕ) (n m : ℕ) (t : List Bool) → m ≤ n → Barred row n t → Barred row m t
table-less row n m t h b = record { none = b.none; each = λ v l. b.each v (omega arith) }

-- a table and its bits
module _ (row : List ℕ) (n : ℕ) (t : List Bool) (b : Barred row n t) where
  pub cell-member : (w : ℕ) → w ≤ n → get_or t w false ≡ false → (m : ℕ) → w ≡ suc m → member row m ≡ true
  cell-member w h e m q = not-false (member row m) (sym (b.each m (omega arith)) ∙ ap (λ (k : ℕ). get_or t k false) (sym q) ∙ e)

  pub member-cell : (w : ℕ) → w ≤ n → ((m : ℕ) → w ≡ suc m → member row m ≡ true) → get_or t w false ≡ false
  member-cell zero h f = b.none
  member-cell (suc m) h f = b.each m (omega arith) ∙ ap not (f m refl)
