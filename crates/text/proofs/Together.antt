-- Eight digits together: what the code computes on whole numbers is what the definitions say of each digit.
-- Assumes nothing.
use Prim.Native.Nat.{ℕ, zero, suc, ◌+◌, ◌-◌, ◌*◌, ◌/◌, ◌%◌, ◌^◌, ◌≤◌, ◌<◌}
use native.Mathlib.Nat.{div-one, mod-eq_of_lt, mul_assoc, mul-le-mul_left}
use native.Mathlib.Omega.{arith}
use native.Mathlib.Decide.{dec_lt}
use mathlib.Core.Path.{◌≡◌, refl, sym, ◌∙◌, ap, ap₂}
use mathlib.Core.Bool.{Bool, true, false, cond}
use mathlib.Core.List.{List, [], ◌∷◌}
use Rattle.std.specs.Int.{w64, to_be_bytes, from_be_bytes}
use Rattle.std.specs.Bool.{then_some}
use Rattle.std.specs.Prelude.{Some, None}
use Rattle.std.proofs.lemmas.Nat.{be_bytes_8}
use lib.Arith.{digits_div, digits_mod}
use lib.Bits.{bit_and}
use lib.Dec.{leb, eqb}
use lib.ListN.{length, take, drop, get_or, length-drop}
use Rattle.std.proofs.lemmas.List.{length-take, get_or_past}
use lib.Seq.{ext_get_or, get_or-take, get_or-drop, length-take-le}
use borrow.Author.Tests.{leb-true, leb-false, le-leb, lt-leb, eqb-true, eqb-false}
use Rattle.model.specs.Bounded.{list_from, list}
use Rattle.model.specs.Text.{digit, word_digits, shown_from, shown}
use Rattle.model.proofs.Places.{length-list, get_d-list}
use Rattle.model.proofs.Search.{and-true, never}
use Rattle.text.specs.Digits.{is_digit, value_of, digits_only, numeral, byte_at, eight_bytes, nibble, Values, value_in, word_in}
use Rattle.text.proofs.Hexes.{value-is, digit_at}
use Rattle.text.proofs.Trips.{digit_value}
use Rattle.text.proofs.Numerals.{places_same, place_of, places_of, sum-places, times-places, parts-places}
use Rattle.text.proofs.Numerals.{scaled-places, parted-places, low_bits, high_bits}

-- the bytes of a number that is made of bytes; a number is made of its bytes, and a word of its digits' values
pub byte_of : (f : ℕ → ℕ) → ((k : ℕ) → k < 8 → f k < 256) → (k : ℕ) → k < 8 → byte_at (numeral 256 f 8) k ≡ f k
byte_of f l k h =
    let e : 7 - k ≡ 8 - suc k = omega arith in
    ap (λ (p : ℕ). numeral 256 f 8 / 256 ^ p % 256) e ∙ place_of 256 f 8 l k h

pub bytes_of : (x : ℕ) → x < 2 ^ 64 → numeral 256 (byte_at x) 8 ≡ x
bytes_of x h =
    places_same 256 (byte_at x) (λ k. x / 256 ^ (8 - suc k) % 256) 8 (λ k i. ap (λ (p : ℕ). x / 256 ^ p % 256) (omega arith))
    ∙ places_of 256 (omega arith) 8 x
    ∙ mod-eq_of_lt {n = x} {m = 256 ^ 8} h

pub nibbles-of : (w : ℕ) → w < 2 ^ 32 → numeral 16 (nibble w) 8 ≡ w
nibbles-of w h =
    places_same 16 (nibble w) (λ k. w / 16 ^ (8 - suc k) % 16) 8 (λ k i. ap (λ (p : ℕ). w / 16 ^ p % 16) (omega arith))
    ∙ places_of 16 (omega arith) 8 w
    ∙ mod-eq_of_lt {n = w} {m = 16 ^ 8} h

-- what the code computes: halves, bytes and digits of a word apart, and together
abbrev pub halves_apart : ℕ → ℕ
halves_apart w = w / 65536 * 4294967296 + w % 65536

abbrev pub bytes_apart : ℕ → ℕ
bytes_apart x = bit_and x 0x0000_ff00_0000_ff00 * 256 + bit_and x 0x0000_00ff_0000_00ff

abbrev pub nibbles_apart : ℕ → ℕ
nibbles_apart x = bit_and x 0x00f0_00f0_00f0_00f0 * 16 + bit_and x 0x000f_000f_000f_000f

abbrev pub bytes_together : ℕ → ℕ
bytes_together x = bit_and x 0x0f00_0f00_0f00_0f00 / 16 + bit_and x 0x000f_000f_000f_000f

abbrev pub halves_together : ℕ → ℕ
halves_together x = bit_and x 0x00ff_0000_00ff_0000 / 256 + bit_and x 0x0000_00ff_0000_00ff

abbrev pub word_together : ℕ → ℕ
word_together x = (x / 65536 + x % 65536) % 4294967296

-- a number with an empty place between its two: the first and the last, moved together
module _ (s : ℕ) where
  moved : (q : ℕ) {r : ℕ} → r < s → (q * s * s + r) / s + (q * s * s + r) % s ≡ q * s + r
  moved q h = ap₂ ◌+◌ (digits_div (q * s) h) (digits_mod (q * s) h)

  pair-back : (a : ℕ) {b : ℕ} → a < s → b < s → (a * (s * s) + b) / (s * s) % s * s + (a * (s * s) + b) % s ≡ a * s + b
  pair-back a {b} ha hb =
      let wide : b < s * s = omega (arith, mul-le-mul_left {m = 1} {n = s} s (omega arith)) in
      ap₂ (λ (x y : ℕ). x % s * s + y) (digits_div a wide) (ap (λ (x : ℕ). (x + b) % s) (sym (mul_assoc a s s)) ∙ digits_mod (a * s) hb)
      ∙ ap (λ (x : ℕ). x * s + b) (mod-eq_of_lt ha)

-- two neighbours as one place of a base
abbrev pairs : ℕ → (ℕ → ℕ) → ℕ → ℕ
pairs B f j = f (2 * j) * B + f (2 * j + 1)

paired-256 : (f : ℕ → ℕ) → numeral (2 ^ 16) (pairs 256 f) 4 ≡ numeral 256 f 8
paired-256 f = omega arith

paired-65536 : (f : ℕ → ℕ) → numeral (2 ^ 32) (pairs 65536 f) 2 ≡ numeral (2 ^ 16) f 4
paired-65536 f = omega arith

module _ (f : ℕ → ℕ) (l : (k : ℕ) → k < 8 → f k < 16) where
  -- the bytes of a word whose digits have these values, and its halves
  abbrev bytes : ℕ → ℕ
  bytes = pairs 16 f

  abbrev halves : ℕ → ℕ
  halves = pairs 256 bytes

  first-lt : (j : ℕ) → j < 4 → f (2 * j) < 16
  first-lt j h = l (2 * j) (omega arith)

  second_lt : (j : ℕ) → j < 4 → f (2 * j + 1) < 16
  second_lt j h = l (2 * j + 1) (omega arith)

  byte-lt : (j : ℕ) → j < 4 → bytes j < 256
  byte-lt j h = omega (arith, first-lt j h, second_lt j h)

  half_lt : (i : ℕ) → i < 2 → halves i < 2 ^ 32
  half_lt i h = omega (arith, byte-lt (2 * i) (omega arith), byte-lt (2 * i + 1) (omega arith))

  wide-lt : (j : ℕ) → j < 4 → bytes j < 2 ^ 16
  wide-lt j h = omega (arith, byte-lt j h)

  -- taking apart
  halves-apart : halves_apart (numeral 16 f 8) ≡ numeral (2 ^ 32) halves 2
  halves-apart = omega (arith, byte-lt 2 (omega arith), byte-lt 3 (omega arith))

  bytes-apart : bytes_apart (numeral (2 ^ 32) halves 2) ≡ numeral (2 ^ 16) bytes 4
  bytes-apart =
      ap₂ (λ (a b : ℕ). a * 256 + b) (high_bits 32 2 halves half_lt 8 8 (omega arith)) (low_bits 32 2 halves half_lt 8 (omega arith))
      ∙ scaled-places (2 ^ 32) (λ i. halves i / 256 % 256 * 256) (λ i. halves i % 256) 256 2
      ∙ places_same (2 ^ 32) (λ i. halves i / 256 % 256 * 256 * 256 + halves i % 256) (pairs 65536 bytes) 2
      (λ i h. omega (arith, byte-lt (2 * i) (omega arith), byte-lt (2 * i + 1) (omega arith)))
      ∙ paired-65536 bytes

  nibbles-apart : nibbles_apart (numeral (2 ^ 16) bytes 4) ≡ numeral 256 f 8
  nibbles-apart =
      ap₂ (λ (a b : ℕ). a * 16 + b) (high_bits 16 4 bytes wide-lt 4 4 (omega arith)) (low_bits 16 4 bytes wide-lt 4 (omega arith))
      ∙ scaled-places (2 ^ 16) (λ j. bytes j / 16 % 16 * 16) (λ j. bytes j % 16) 16 4
      ∙ places_same (2 ^ 16) (λ j. bytes j / 16 % 16 * 16 * 16 + bytes j % 16) (pairs 256 f) 4
      (λ j h. omega (arith, first-lt j h, second_lt j h))
      ∙ paired-256 f

  -- and together
  bytes-together : bytes_together (numeral 256 f 8) ≡ numeral (2 ^ 16) bytes 4
  bytes-together =
      ap bytes_together (sym (paired-256 f))
      ∙ ap₂ (λ (a b : ℕ). a / 16 + b) (high_bits 16 4 (pairs 256 f) pair_lt 4 8 (omega arith)) (low_bits 16 4 (pairs 256 f) pair_lt 4 (omega arith))
      ∙ ap (λ (x : ℕ). x / 16 + numeral (2 ^ 16) (λ j. pairs 256 f j % 16) 4)
      (places_same (2 ^ 16) (λ j. pairs 256 f j / 256 % 16 * 256) (λ j. pairs 256 f j / 256 % 16 * 16 * 16) 4 (λ j h. omega arith))
      ∙ parted-places (2 ^ 16) (λ j. pairs 256 f j / 256 % 16 * 16) (λ j. pairs 256 f j % 16) 16 4 (omega arith)
      ∙ places_same (2 ^ 16) (λ j. pairs 256 f j / 256 % 16 * 16 + pairs 256 f j % 16) bytes 4
      (λ j h. pair-back 16 (f (2 * j)) (first-lt j h) (second_lt j h))
    where
      pair_lt : (j : ℕ) → j < 4 → pairs 256 f j < 2 ^ 16
      pair_lt j h = omega (arith, first-lt j h, second_lt j h)

  halves-together : halves_together (numeral (2 ^ 16) bytes 4) ≡ numeral (2 ^ 32) halves 2
  halves-together =
      ap halves_together (sym (paired-65536 bytes))
      ∙ ap₂ (λ (a b : ℕ). a / 256 + b) (high_bits 32 2 (pairs 65536 bytes) pair_lt 8 16 (omega arith)) (low_bits 32 2 (pairs 65536 bytes) pair_lt 8 (omega arith))
      ∙ ap (λ (x : ℕ). x / 256 + numeral (2 ^ 32) (λ i. pairs 65536 bytes i % 256) 2)
      (places_same (2 ^ 32) (λ i. pairs 65536 bytes i / 65536 % 256 * 65536) (λ i. pairs 65536 bytes i / 65536 % 256 * 256 * 256) 2 (λ i h. omega arith))
      ∙ parted-places (2 ^ 32) (λ i. pairs 65536 bytes i / 65536 % 256 * 256) (λ i. pairs 65536 bytes i % 256) 256 2 (omega arith)
      ∙ places_same (2 ^ 32) (λ i. pairs 65536 bytes i / 65536 % 256 * 256 + pairs 65536 bytes i % 256) halves 2
      (λ i h. pair-back 256 (bytes (2 * i)) (byte-lt (2 * i) (omega arith)) (byte-lt (2 * i + 1) (omega arith)))
    where
      pair_lt : (i : ℕ) → i < 2 → pairs 65536 bytes i < 2 ^ 32
      pair_lt i h = omega (arith, byte-lt (2 * i) (omega arith), byte-lt (2 * i + 1) (omega arith))

  word-together : word_together (numeral (2 ^ 32) halves 2) ≡ numeral 16 f 8
  word-together =
      let h : halves 1 < 65536 = omega (arith, byte-lt 2 (omega arith), byte-lt 3 (omega arith)) in
      let e : numeral (2 ^ 32) halves 2 ≡ halves 0 * 65536 * 65536 + halves 1 = omega arith in
      ap word_together e
      ∙ ap (λ (x : ℕ). x % 4294967296) (moved 65536 (halves 0) h)
      ∙ mod-eq_of_lt {n = halves 0 * 65536 + halves 1} {m = 4294967296} (omega (arith, byte-lt 0 (omega arith), byte-lt 1 (omega arith)))
      ∙ omega arith

-- a word's values, and the word of eight values, as the code finds them
pub spread-is : (w : ℕ) → w < 2 ^ 32 → nibbles_apart (bytes_apart (halves_apart w)) ≡ numeral 256 (nibble w) 8
spread-is w h =
    let l : (k : ℕ) → k < 8 → nibble w k < 16 = λ k i. omega arith in
    ap (λ (x : ℕ). nibbles_apart (bytes_apart (halves_apart x))) (sym (nibbles-of w h))
    ∙ ap (λ (x : ℕ). nibbles_apart (bytes_apart x)) (halves-apart (nibble w) l)
    ∙ ap nibbles_apart (bytes-apart (nibble w) l)
    ∙ nibbles-apart (nibble w) l

pub packed-is : (v : ℕ) → v < 2 ^ 64 → Values v → word_together (halves_together (bytes_together v)) ≡ numeral 16 (byte_at v) 8
unfolding Values
packed-is v h l =
    ap (λ (x : ℕ). word_together (halves_together (bytes_together x))) (sym (bytes_of v h))
    ∙ ap (λ (x : ℕ). word_together (halves_together x)) (bytes-together (byte_at v) l)
    ∙ ap word_together (halves-together (byte_at v) l)
    ∙ word-together (byte_at v) l

-- the digits of eight values
digit-small : (d : ℕ) → d < 16 → (digit d < 128) × (is_digit (digit d) ≡ true)
digit-small d h = by (leb d 9) refl
  where
    by : (t : Bool) → leb d 9 ≡ t → (cond t (48 + d) (87 + d) < 128) × (is_digit (cond t (48 + d) (87 + d)) ≡ true)
    by true g =
        let i = leb-true d 9 g in
        (omega arith, simp (le-leb 48 (48 + d) (omega arith), le-leb (48 + d) 57 (omega arith)))
    by false g =
        let i = leb-false d 9 g in (
          omega arith,
          simp (le-leb 48 (87 + d) (omega arith), lt-leb (87 + d) 57 (omega arith), le-leb 97 (87 + d) (omega arith), le-leb (87 + d) 102 (omega arith)),
        )

abbrev digit_of : ℕ → ℕ
digit_of d = d + 48 + (d + 6) / 16 % 2 * 39

digit-by : (d : ℕ) (t : Bool) → leb d 9 ≡ t → d < 16 → digit_of d ≡ cond t (48 + d) (87 + d)
digit-by d true h i = let g = leb-true d 9 h in omega arith
digit-by d false h i = let g = leb-false d 9 h in omega arith

pub digits_are : (v : ℕ) → v < 2 ^ 64 → Values v
    → v + 0x3030_3030_3030_3030 + bit_and (v + 0x0606_0606_0606_0606) 0x1010_1010_1010_1010 / 16 * 39 ≡ numeral 256 (λ k. digit (byte_at v k)) 8
unfolding Values
digits_are v h l =
    ap (λ (x : ℕ). x + 0x3030_3030_3030_3030 + bit_and (x + 0x0606_0606_0606_0606) 0x1010_1010_1010_1010 / 16 * 39) (sym (bytes_of v h))
    ∙ ap₂ (λ (a b : ℕ). a + bit_and b 0x1010_1010_1010_1010 / 16 * 39) (sum-places 256 f (λ k. 48) 8) (sum-places 256 f (λ k. 6) 8)
    ∙ ap (λ (x : ℕ). numeral 256 (λ k. f k + 48) 8 + x / 16 * 39) (high_bits 8 8 (λ k. f k + 6) (λ k i. omega (arith, l k i)) 1 4 (omega arith))
    ∙ ap (λ (x : ℕ). numeral 256 (λ k. f k + 48) 8 + x * 39) (parts-places 256 (λ k. (f k + 6) / 16 % 2) 16 8 (omega arith))
    ∙ ap (λ (x : ℕ). numeral 256 (λ k. f k + 48) 8 + x) (times-places 256 (λ k. (f k + 6) / 16 % 2) 39 8)
    ∙ sum-places 256 (λ k. f k + 48) (λ k. (f k + 6) / 16 % 2 * 39) 8
    ∙ places_same 256 (λ k. digit_of (f k)) (λ k. digit (f k)) 8 (λ k i. digit-by (f k) _ refl (l k i))
  where
    f : ℕ → ℕ
    f = byte_at v

-- and the values of eight bytes
pub values-are : (x : ℕ) → x < 2 ^ 64
    → bit_and (bit_and x 0x0f0f_0f0f_0f0f_0f0f + bit_and x 0x4040_4040_4040_4040 / 64 * 9) 0x0f0f_0f0f_0f0f_0f0f ≡ numeral 256 (λ k. value_in (byte_at x k)) 8
values-are x h =
    ap (λ (x : ℕ). bit_and (bit_and x 0x0f0f_0f0f_0f0f_0f0f + bit_and x 0x4040_4040_4040_4040 / 64 * 9) 0x0f0f_0f0f_0f0f_0f0f) (sym (bytes_of x h))
    ∙ ap₂ (λ (a b : ℕ). bit_and (a + b / 64 * 9) 0x0f0f_0f0f_0f0f_0f0f)
    (low_bits 8 8 (byte_at x) (λ k i. omega arith) 4 (omega arith)) (high_bits 8 8 (byte_at x) (λ k i. omega arith) 1 6 (omega arith))
    ∙ ap (λ (b : ℕ). bit_and (numeral 256 (λ k. byte_at x k % 16) 8 + b * 9) 0x0f0f_0f0f_0f0f_0f0f) (parts-places 256 (λ k. byte_at x k / 64 % 2) 64 8 (omega arith))
    ∙ ap (λ (b : ℕ). bit_and (numeral 256 (λ k. byte_at x k % 16) 8 + b) 0x0f0f_0f0f_0f0f_0f0f) (times-places 256 (λ k. byte_at x k / 64 % 2) 9 8)
    ∙ ap (λ (a : ℕ). bit_and a 0x0f0f_0f0f_0f0f_0f0f) (sum-places 256 (λ k. byte_at x k % 16) (λ k. byte_at x k / 64 % 2 * 9) 8)
    ∙ low_bits 8 8 (λ k. byte_at x k % 16 + byte_at x k / 64 % 2 * 9) (λ k i. omega arith) 4 (omega arith)

-- eight values are at most fifteens
pub values_small : {v : ℕ} → v < 2 ^ 64 → Values v → v < 0x1010_1010_1010_1010
unfolding Values
values_small {v} h l =
    rw (← bytes_of v h) (omega (arith, l 0 (omega arith), l 1 (omega arith)))

-- bytes that the code takes for values are values
module _ (f : ℕ → ℕ) (l : (k : ℕ) → f k < 16) where
  pub values-by : {v : ℕ} → v ≡ numeral 256 f 8 → Values v
  unfolding Values
  values-by e k h = rw (e, byte_of f (λ k i. omega (arith, l k)) k h) (l k)

-- lists by their elements
list_same : (f g : ℕ → ℕ) (n : ℕ) → ((k : ℕ) → k < n → f k ≡ g k) → list f n ≡ list g n
list_same f g n e =
    ext_get_or 0 (list f n) (list g n) (length-list f n ∙ sym (length-list g n))
    (λ k h. let i : k < n = omega (arith, length-list f n) in get_d-list f n k i ∙ e k i ∙ sym (get_d-list g n k i))

-- eight bytes as the library writes and reads them
pub bytes-written : (x : ℕ) → to_be_bytes w64 x ≡ eight_bytes x
bytes-written x = ap (λ (q : ℕ). byte_at x 0 ∷ byte_at x 1 ∷ byte_at x 2 ∷ byte_at x 3 ∷ byte_at x 4 ∷ byte_at x 5 ∷ byte_at x 6 ∷ q % 256 ∷ []) (sym (div-one x))

-- what a list holds, a part of it holds
part-small : (s : List ℕ) (at n : ℕ) → ((i : ℕ) → get_or s i 0 < 256) → (i : ℕ) → get_or (take n (drop at s)) i 0 < 256
part-small s at n l i = by (dec_lt i n)
  where
    by : Dec (i < n) → get_or (take n (drop at s)) i 0 < 256
    by (yes h) = rw (get_or-take n (drop at s) i 0 h, get_or-drop at s i 0) (l (at + i))
    by (no h) = rw (get_or_past (take n (drop at s)) i 0 (simp length-take (omega arith))) (omega arith)

pub bytes-read : (s : List ℕ) (at : ℕ) {bytes : List ℕ} {x : ℕ} → at + 8 ≤ length s → ((i : ℕ) → get_or s i 0 < 256) → bytes ≡ take 8 (drop at s)
    → x ≡ from_be_bytes w64 bytes → eight_bytes x ≡ take 8 (drop at s)
bytes-read s at {bytes} {x} h l e f =
    let n : length bytes ≡ 8 = ap length e ∙ length-take-le 8 (drop at s) (simp length-drop (omega arith)) in
    sym (bytes-written x) ∙ be_bytes_8 bytes x n (λ i. rw e (part-small s at 8 l i)) f ∙ e

-- the digits of a word
pub digits-shown : (w : ℕ) {v r : ℕ} → v ≡ numeral 256 (nibble w) 8 → r ≡ numeral 256 (λ k. digit (byte_at v k)) 8 → eight_bytes r ≡ word_digits w
digits-shown w {v} {r} e d =
    list_same (byte_at r) (λ k. digit (nibble w k)) 8
    (λ k h.
    ap (λ (x : ℕ). byte_at x k) d
    ∙ byte_of (λ k. digit (byte_at v k)) (λ k i. rw (value k i) (omega (arith, (digit-small (nibble w k) (omega arith)).0))) k h
    ∙ ap digit (value k h))
  where
    value : (k : ℕ) → k < 8 → byte_at v k ≡ nibble w k
    value k h = ap (λ (x : ℕ). byte_at x k) e ∙ byte_of (nibble w) (λ k i. omega arith) k h

-- the values of digits, and bytes that come back are digits
value-in : (b : ℕ) → is_digit b ≡ true → value_in b ≡ value_of b
value-in b h =
    let v = value-is b h in
    let s : b < 128 = rw (digit_value b h) at (digit-small (value_of b) v.1).0 in
    let q : b / 64 % 2 ≡ b / 64 = omega arith in
    ap (λ (x : ℕ). (b % 16 + x * 9) % 16) q ∙ ap (λ (x : ℕ). x % 16) v.0 ∙ mod-eq_of_lt v.1

all_digits : (f : ℕ → ℕ) (i n : ℕ) → ((k : ℕ) → k < i + n → is_digit (f k) ≡ true) → digits_only (list_from f i n) ≡ true
all_digits f i zero e = refl
all_digits f i (suc n) e = and-true (e i (omega arith)) (all_digits f (suc i) n (λ k h. e k (omega arith)))

shown-list : (f : ℕ → ℕ) → shown (list f 8) ≡ numeral 16 (λ k. value_of (f k)) 8
unfolding shown_from
shown-list f = refl

module _ (x : ℕ) (small : x < 2 ^ 64) {v d : ℕ} (ev : v ≡ numeral 256 (λ k. value_in (byte_at x k)) 8)
    (ed : d ≡ numeral 256 (λ k. digit (byte_at v k)) 8) where
  value-at : (k : ℕ) → k < 8 → byte_at v k ≡ value_in (byte_at x k)
  value-at k h = ap (λ (x : ℕ). byte_at x k) ev ∙ byte_of (λ k. value_in (byte_at x k)) (λ k i. omega arith) k h

  digit-back : (k : ℕ) → k < 8 → byte_at d k ≡ digit (value_in (byte_at x k))
  digit-back k h =
      ap (λ (x : ℕ). byte_at x k) ed
      ∙ byte_of (λ k. digit (byte_at v k)) (λ k i. rw (value-at k i) (omega (arith, (digit-small (value_in (byte_at x k)) (omega arith)).0))) k h
      ∙ ap digit (value-at k h)

  digits-if : d ≡ x → digits_only (eight_bytes x) ≡ true
  digits-if e =
      all_digits (byte_at x) 0 8
      (λ k h.
      rw (sym (ap (λ (x : ℕ). byte_at x k) (sym e) ∙ digit-back k (omega arith))) at (digit-small (value_in (byte_at x k)) (omega arith)).1)

  digit-in : digits_only (eight_bytes x) ≡ true → (k : ℕ) → k < 8 → is_digit (byte_at x k) ≡ true
  digit-in e k h = rw (get_d-list (byte_at x) 8 k h) at (digit_at (eight_bytes x) k e (omega (arith, length-list (byte_at x) 8)))

  -- the bytes are digits exactly if they come back
  same : digits_only (eight_bytes x) ≡ true → d ≡ x
  same e =
      ed
      ∙ places_same 256 (λ k. digit (byte_at v k)) (byte_at x) 8
      (λ k h. ap digit (value-at k h ∙ value-in (byte_at x k) (digit-in e k h)) ∙ digit_value (byte_at x k) (digit-in e k h))
      ∙ bytes_of x small

  read-some : {w : ℕ} → w ≡ numeral 16 (byte_at v) 8 → d ≡ x → Some w ≡ word_in (eight_bytes x)
  read-some ew e =
      let t = digits-if e in
      rw t (ap Some (ew ∙ places_same 16 (byte_at v) (λ k. value_of (byte_at x k)) 8 (λ k h. value-at k h ∙ value-in (byte_at x k) (digit-in t k h)) ∙ sym (shown-list (byte_at x))))

  read-none : (d ≡ x → ⊥) → None ≡ word_in (eight_bytes x)
  read-none n = rw (never (digits_only (eight_bytes x)) (λ h. n (same h)))

  pub read_is : {w : ℕ} → w ≡ numeral 16 (byte_at v) 8 → then_some (eqb d x) w ≡ word_in (eight_bytes x)
  read_is {w} ew = by (eqb d x) refl
    where
      by : (t : Bool) → eqb d x ≡ t → then_some t w ≡ word_in (eight_bytes x)
      by true h = read-some ew (eqb-true d x h)
      by false h = read-none (eqb-false d x h)
