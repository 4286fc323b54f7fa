-- Numbers by their places: each place read back, and masks, sums and products place by place.
-- Assumes nothing.
use Prim.Native.Nat.{ℕ, zero, suc, ◌+◌, ◌-◌, ◌*◌, ◌/◌, ◌%◌, ◌^◌, ◌≤◌, ◌<◌}
use native.Mathlib.Omega.{arith}
use native.Mathlib.Decide.{dec_lt}
use native.Mathlib.Nat.{div-one, mod-one, one-le-pow, pow-zero, pow-suc, pow-succ', add-mul, mul_assoc, mul_comm, mul-div_left, div-div-eq-div-mul}
use mathlib.Core.Path.{◌≡◌, refl, sym, ◌∙◌, ap, ap₂}
use lib.Arith.{digits_div, digits_mod, mod-mul}
use lib.Bits.{bit_and, and_block, and_mask, and_high}
use Rattle.text.specs.Digits.{numeral}

-- a number without its last place, then without n more
div-more : (w B n : ℕ) → w / B ^ suc n ≡ w / B / B ^ n
div-more w B n = ap (λ (p : ℕ). w / p) (pow-succ' B n) ∙ sym (div-div-eq-div-mul w B (B ^ n))

-- a number by other names of its places
pub places_same : (B : ℕ) (f g : ℕ → ℕ) (n : ℕ) → ((k : ℕ) → k < n → f k ≡ g k) → numeral B f n ≡ numeral B g n
places_same B f g zero e = refl
places_same B f g (suc n) e = ap₂ (λ (a b : ℕ). a * B + b) (places_same B f g n (λ k h. e k (omega arith))) (e n (omega arith))

-- place k of a number that is made of places below the base
pub place_of : (B : ℕ) (f : ℕ → ℕ) (n : ℕ) → ((k : ℕ) → k < n → f k < B) → (k : ℕ) → k < n → numeral B f n / B ^ (n - suc k) % B ≡ f k
place_of B f zero l k h = absurd (omega arith)
place_of B f (suc n) l k h = by (dec_lt k n) (place_of B f n (λ i j. l i (omega arith)) k)
  where
    by : Dec (k < n) → (k < n → numeral B f n / B ^ (n - suc k) % B ≡ f k) → numeral B f (suc n) / B ^ (suc n - suc k) % B ≡ f k
    by (yes i) r =
        let e : suc n - suc k ≡ suc (n - suc k) = omega arith in
        ap (λ (p : ℕ). numeral B f (suc n) / B ^ p % B) e
        ∙ ap (λ (x : ℕ). x % B) (div-more (numeral B f (suc n)) B (n - suc k))
        ∙ ap (λ (x : ℕ). x / B ^ (n - suc k) % B) (digits_div (numeral B f n) (l n (omega arith)))
        ∙ r i
    by (no i) r =
        let e : suc n - suc k ≡ 0 = omega arith in
        let m : n ≡ k = omega arith in
        ap (λ (p : ℕ). numeral B f (suc n) / B ^ p % B) e
        ∙ ap (λ (p : ℕ). numeral B f (suc n) / p % B) (pow-zero B)
        ∙ ap (λ (x : ℕ). x % B) (div-one (numeral B f (suc n)))
        ∙ digits_mod (numeral B f n) (l n (omega arith))
        ∙ ap f m

-- a number is made of its places
pub places_of : (B : ℕ) → 1 ≤ B → (n w : ℕ) → numeral B (λ k. w / B ^ (n - suc k) % B) n ≡ w % B ^ n
places_of B h zero w = sym (ap (λ (p : ℕ). w % p) (pow-zero B) ∙ mod-one w)
places_of B h (suc n) w =
    let last : suc n - suc n ≡ 0 = omega arith in
    ap₂ (λ (a b : ℕ). a * B + b)
    (places_same B (λ k. w / B ^ (suc n - suc k) % B) (λ k. w / B / B ^ (n - suc k) % B) n
    (λ k i. ap (λ (p : ℕ). w / B ^ p % B) (omega arith) ∙ ap (λ (x : ℕ). x % B) (div-more w B (n - suc k)))
    ∙ places_of B h n (w / B))
    (ap (λ (p : ℕ). w / B ^ p % B) last ∙ ap (λ (p : ℕ). w / p % B) (pow-zero B) ∙ ap (λ (x : ℕ). x % B) (div-one w))
    ∙ sym (mod-mul w {m = B ^ n} {c = B} (one-le-pow n B h) h)
    ∙ sym (ap (λ (p : ℕ). w % p) (pow-suc B n))

module _ (B : ℕ) where
  pub sum-places : (f g : ℕ → ℕ) (n : ℕ) → numeral B f n + numeral B g n ≡ numeral B (λ k. f k + g k) n
  sum-places f g zero = refl
  sum-places f g (suc n) =
      omega (arith, add-mul (numeral B f n) (numeral B g n) B)
      ∙ ap (λ (x : ℕ). x * B + (f n + g n)) (sum-places f g n)

  pub times-places : (f : ℕ → ℕ) (c n : ℕ) → numeral B f n * c ≡ numeral B (λ k. f k * c) n
  times-places f c zero = omega arith
  times-places f c (suc n) =
      let F = numeral B f n in
      add-mul (F * B) (f n) c
      ∙ ap (λ (x : ℕ). x + f n * c) (mul_assoc F B c ∙ ap (λ (x : ℕ). F * x) (mul_comm B c) ∙ sym (mul_assoc F c B))
      ∙ ap (λ (x : ℕ). x * B + f n * c) (times-places f c n)

  pub parts-places : (f : ℕ → ℕ) (c n : ℕ) → 0 < c → numeral B (λ k. f k * c) n / c ≡ numeral B f n
  parts-places f c n h = ap (λ (x : ℕ). x / c) (sym (times-places f c n)) ∙ mul-div_left (numeral B f n) h

  -- a multiple, or a part, and a sum
  pub scaled-places : (f g : ℕ → ℕ) (c n : ℕ) → numeral B f n * c + numeral B g n ≡ numeral B (λ k. f k * c + g k) n
  scaled-places f g c n = ap (λ (x : ℕ). x + numeral B g n) (times-places f c n) ∙ sum-places (λ k. f k * c) g n

  pub parted-places : (f g : ℕ → ℕ) (c n : ℕ) → 0 < c → numeral B (λ k. f k * c) n / c + numeral B g n ≡ numeral B (λ k. f k + g k) n
  parted-places f g c n h = ap (λ (x : ℕ). x + numeral B g n) (parts-places f c n h) ∙ sum-places f g n

-- a mask, place by place
mask-places : (b n : ℕ) (f m : ℕ → ℕ) → ((k : ℕ) → k < n → f k < 2 ^ b) → ((k : ℕ) → k < n → m k < 2 ^ b)
    → bit_and (numeral (2 ^ b) f n) (numeral (2 ^ b) m n) ≡ numeral (2 ^ b) (λ k. bit_and (f k) (m k)) n
mask-places b zero f m hf hm = refl
mask-places b (suc n) f m hf hm =
    and_block b (numeral (2 ^ b) f n) (numeral (2 ^ b) m n) (f n) (m n) (hf n (omega arith)) (hm n (omega arith))
    ∙ ap (λ (x : ℕ). x * 2 ^ b + bit_and (f n) (m n)) (mask-places b n f m (λ k h. hf k (omega arith)) (λ k h. hm k (omega arith)))

-- the c low bits of each place of b bits, and the c bits above the s low ones
module _ (b n : ℕ) (f : ℕ → ℕ) (l : (k : ℕ) → k < n → f k < 2 ^ b) (c : ℕ) where
  pub low_bits : 2 ^ c - 1 < 2 ^ b → bit_and (numeral (2 ^ b) f n) (numeral (2 ^ b) (λ k. 2 ^ c - 1) n) ≡ numeral (2 ^ b) (λ k. f k % 2 ^ c) n
  low_bits h =
      mask-places b n f (λ k. 2 ^ c - 1) l (λ k i. h)
      ∙ places_same (2 ^ b) (λ k. bit_and (f k) (2 ^ c - 1)) (λ k. f k % 2 ^ c) n (λ k i. and_mask (f k) c)

  pub high_bits : (s : ℕ) → 2 ^ (c + s) - 2 ^ s < 2 ^ b
      → bit_and (numeral (2 ^ b) f n) (numeral (2 ^ b) (λ k. 2 ^ (c + s) - 2 ^ s) n) ≡ numeral (2 ^ b) (λ k. f k / 2 ^ s % 2 ^ c * 2 ^ s) n
  high_bits s h =
      mask-places b n f (λ k. 2 ^ (c + s) - 2 ^ s) l (λ k i. h)
      ∙ places_same (2 ^ b) (λ k. bit_and (f k) (2 ^ (c + s) - 2 ^ s)) (λ k. f k / 2 ^ s % 2 ^ c * 2 ^ s) n (λ k i. and_high (f k) c s)
