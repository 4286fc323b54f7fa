-- A row of guests by its words or-ed together, and by a table that bars what is past the limit.
-- Assumes nothing.
use Prim.Native.Nat.{ℕ, ◌≤◌, ◌<◌}
use mathlib.Core.Path.{◌≡◌, refl, sym, ◌∙◌}
use mathlib.Core.Bool.{Bool, true, false, true≢false}
use mathlib.Core.List.{List}
use native.Mathlib.Omega.{arith}
use lib.Dec.{leb}
use lib.ListN.{length, get_or}
use lib.Bits.{bit_or}
use Rattle.std.specs.List.{fold}
use borrow.Author.Tests.{leb-true, leb-false}
use Rattle.rules.specs.Rows.{Past, Marked, Free, Guests}
use Rattle.rules.proofs.Zeros.{or_fold-le, or_fold-lt}

module _ (row : List ℕ) where
  -- words of ten bits or-ed together have ten bits
  pub all-low : (limit : ℕ) (t : List Bool) → limit ≤ 512 → Guests row limit t → 1023 < fold bit_or 0 row → ⊥
  all-low limit t h g l = omega (arith, l, or_fold-lt 0 row 10 (omega arith) (λ k m. omega (arith, g.range k m)))

  pub low-all : fold bit_or 0 row ≤ 1023 → (i : ℕ) → i < length row → get_or row i 0 < 1024
  low-all h i l = omega (arith, or_fold-le 0 row i l)

  module _ (limit : ℕ) (t : List Bool) where
    pub free-guests : Past limit t → ((i : ℕ) → i < length row → get_or row i 0 < length t) → Free row t → Guests row limit t
    free-guests p low f = record { range = λ i h. go i h (leb (get_or row i 0) limit) refl; free = f.free; once = f.once }
      where
        go : (i : ℕ) → i < length row → (b : Bool) → leb (get_or row i 0) limit ≡ b → get_or row i 0 ≤ limit
        go i h true e = leb-true (get_or row i 0) limit e
        go i h false e = absurd (true≢false (sym (p (get_or row i 0) (leb-false (get_or row i 0) limit e) (low i h)) ∙ f.free i h))

    pub guests-free : Guests row limit t → Free row t
    guests-free g = record { free = g.free; once = g.once }

-- marks bar no less
pub past-marked : (limit : ℕ) (before after : List Bool) → length after ≡ length before → Past limit before → Marked before after → Past limit after
past-marked limit before after e p m v h l = m v (omega arith) (p v h (omega (arith, e)))
