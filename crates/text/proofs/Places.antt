-- Places of a number in any base.
-- Assumes nothing.
use Prim.Native.Nat.{ℕ, suc, ◌+◌, ◌*◌, ◌/◌, ◌%◌, ◌^◌, ◌≤◌}
use native.Mathlib.Nat.{pow-suc, pow-succ', one-le-pow, add-mul, mul_assoc, add_assoc, div-div-eq-div-mul}
use mathlib.Core.Path.{◌≡◌, sym, ◌∙◌, ap, ap₂}
use lib.Arith.{mod-mul}

module _ (B n : ℕ) where
  -- one place more
  pub next_place : (acc w : ℕ) → 1 ≤ B → (acc * B + w / B ^ n % B) * B ^ n + w % B ^ n ≡ acc * B ^ suc n + w % B ^ suc n
  next_place acc w h =
      regroup acc (w / B ^ n % B) (B ^ n) (w % B ^ n)
      ∙ sym (ap₂ (λ (x y : ℕ). acc * x + y) (pow-succ' B n) (ap (λ (p : ℕ). w % p) (pow-succ' B n) ∙ split-mod))
    where
      regroup : (a d p r : ℕ) → (a * B + d) * p + r ≡ a * (B * p) + (d * p + r)
      regroup a d p r = simp (add-mul, mul_assoc, add_assoc)

      split-mod : w % (B * B ^ n) ≡ (w / B ^ n % B) * B ^ n + w % B ^ n
      split-mod = mod-mul w {m = B} {c = B ^ n} h (one-le-pow n B h)

  -- a number without its places below n, and without one more
  pub next-left : (w : ℕ) → w / B ^ suc n ≡ w / B ^ n / B
  next-left w = ap (λ (p : ℕ). w / p) (pow-suc B n) ∙ sym (div-div-eq-div-mul w (B ^ n) B)
