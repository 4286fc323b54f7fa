-- Numbers in fields of base ten: what is written reads back.
-- Assumes nothing.
use Prim.Native.Nat.{ℕ, zero, suc, ◌+◌, ◌-◌, ◌*◌, ◌/◌, ◌%◌, ◌^◌, ◌<◌}
use native.Mathlib.Nat.{mod-one, mod-eq_of_lt, one-le-pow, pow-le-pow_right, div-lt_iff_lt-mul, le-div_iff_mul-le}
use native.Mathlib.Decide.{dec_lt}
use native.Mathlib.Numerals.{add-one}
use native.Mathlib.Omega.{arith}
use mathlib.Core.Path.{◌≡◌, refl, sym, ◌∙◌, ap}
use Rattle.std.specs.Prelude.{Some}
use mathlib.Core.List.{List, [], ◌∷◌}
use lib.ListN.{length, set}
use borrow.Author.Tests.{le-leb, lt-ltb, eq-eqb, ne_eqb}
use Rattle.model.specs.Text.{decimal_place, decimal_field, decimal_from, decimal_shown}
use Rattle.text.specs.Put.{Put}
use Rattle.text.specs.Decimals.{place_byte}
use Rattle.text.proofs.Places.{next_place}
use Rattle.text.proofs.Puts.{put-none, put-before}

-- the field by its places
pub field-none : (n : ℕ) → decimal_field 0 n ≡ []
unfolding decimal_field
field-none n = refl

pub field-more : (p n : ℕ) → decimal_field (suc p) n ≡ decimal_place n p ∷ decimal_field p n
unfolding decimal_field
field-more p n = refl

pub field-length : (width n : ℕ) → length (decimal_field width n) ≡ width
unfolding decimal_field
field-length zero n = refl
field-length (suc p) n = ap suc (field-length p n)

-- a digit, and a space
pub place-digit : (n p : ℕ) → (0 < p → 0 < n / 10 ^ p) → decimal_place n p ≡ 48 + n / 10 ^ p % 10
place-digit n zero h = refl
place-digit n (suc p) h = let k = h (omega arith) in simp (lt-ltb 0 (suc p) (omega arith), ne_eqb (n / 10 ^ suc p) 0 (λ e. omega arith))

pub place-blank : (n p : ℕ) → 0 < p → n / 10 ^ p ≡ 0 → decimal_place n p ≡ 32
place-blank n p h e = simp (lt-ltb 0 p h, eq-eqb (n / 10 ^ p) 0 e)

-- reading a digit, and a space
from-none : (acc : ℕ) → decimal_from acc [] ≡ Some acc
unfolding decimal_from
from-none acc = refl

from-digit : (acc d : ℕ) (bs : List ℕ) → d < 10 → decimal_from acc ((48 + d) ∷ bs) ≡ decimal_from (acc * 10 + d) bs
unfolding decimal_from
from-digit acc d bs h =
    let e : 48 + d - 48 ≡ d = omega arith in
    simp (le-leb 48 (48 + d) (omega arith), le-leb (48 + d) 57 (omega arith)) (ap (λ (x : ℕ). decimal_from (acc * 10 + x) bs) e)

shown-digit : (d : ℕ) (bs : List ℕ) → decimal_shown ((48 + d) ∷ bs) ≡ decimal_from 0 ((48 + d) ∷ bs)
unfolding decimal_shown
shown-digit d bs = rw (ne_eqb (48 + d) 32 (λ e. omega arith))

shown-blank : (bs : List ℕ) → decimal_shown (32 ∷ bs) ≡ decimal_shown bs
unfolding decimal_shown
shown-blank bs = refl

-- the number has a digit at each place below p
abbrev Full : ℕ → ℕ → Type 0
Full n p = (k : ℕ) → 0 < k → k < p → 0 < n / 10 ^ k

digits-back : (p n acc : ℕ) → Full n p → decimal_from acc (decimal_field p n) ≡ Some (acc * 10 ^ p + n % 10 ^ p)
digits-back zero n acc f = ap (decimal_from acc) (field-none n) ∙ from-none acc ∙ ap Some (omega (arith, mod-one n))
digits-back (suc p) n acc f =
    let d = n / 10 ^ p % 10 in
    ap (decimal_from acc) (field-more p n)
    ∙ ap (λ (b : ℕ). decimal_from acc (b ∷ decimal_field p n)) (place-digit n p (λ h. f p h (omega arith)))
    ∙ from-digit acc d (decimal_field p n) (omega arith)
    ∙ digits-back p n (acc * 10 + d) (λ k h l. f k h (omega arith))
    ∙ ap Some (next_place 10 p acc n (omega arith))

-- a number with a digit at place p has one at each place below
full_by : (n p : ℕ) → 0 < n / 10 ^ p → Full n (suc p)
full_by n p h k _ l =
    let a = (le-div_iff_mul-le {k = 10 ^ p} {x = 1} {y = n} (one-le-pow p 10 (omega arith))).0 h in
    let b = pow-le-pow_right {n = 10} (omega arith) {i = k} {j = p} (omega arith) in
    (le-div_iff_mul-le {k = 10 ^ k} {x = 1} {y = n} (one-le-pow k 10 (omega arith))).1 (omega arith)

full-shown : (p n : ℕ) → Full n (suc p) → decimal_shown (decimal_field (suc p) n) ≡ Some (n % 10 ^ suc p)
full-shown p n f =
    let e = field-more p n ∙ ap (λ (b : ℕ). b ∷ decimal_field p n) (place-digit n p (λ h. f p h (omega arith))) in
    ap decimal_shown e
    ∙ shown-digit (n / 10 ^ p % 10) (decimal_field p n)
    ∙ ap (decimal_from 0) (sym e)
    ∙ digits-back (suc p) n 0 f
    ∙ ap Some (omega arith)

-- a field of one place or more shows the number's last digits
pub decimal-shown : (p n : ℕ) → decimal_shown (decimal_field (suc p) n) ≡ Some (n % 10 ^ suc p)
decimal-shown zero n = full-shown zero n (λ k h l. absurd (omega arith))
decimal-shown (suc p) n = by (dec_lt 0 (n / 10 ^ suc p)) (decimal-shown p n)
  where
    by : Dec (0 < n / 10 ^ suc p) → decimal_shown (decimal_field (suc p) n) ≡ Some (n % 10 ^ suc p)
        → decimal_shown (decimal_field (suc (suc p)) n) ≡ Some (n % 10 ^ suc (suc p))
    by (yes h) ih = full-shown (suc p) n (full_by n (suc p) h)
    by (no h) ih =
        let z : n / 10 ^ suc p ≡ 0 = omega arith in
        let a = (div-lt_iff_lt-mul {k = 10 ^ suc p} {x = n} {y = 1} (one-le-pow (suc p) 10 (omega arith))).0 (omega arith) in
        let b = pow-le-pow_right {n = 10} (omega arith) {i = suc p} {j = suc (suc p)} (omega arith) in
        let m : n % 10 ^ suc p ≡ n = mod-eq_of_lt {n = n} {m = 10 ^ suc p} (omega arith) in
        let l : n % 10 ^ suc (suc p) ≡ n = mod-eq_of_lt {n = n} {m = 10 ^ suc (suc p)} (omega arith) in
        ap decimal_shown (field-more (suc p) n ∙ ap (λ (b : ℕ). b ∷ decimal_field (suc p) n) (place-blank n (suc p) (omega arith) z))
        ∙ shown-blank (decimal_field (suc p) n)
        ∙ ih
        ∙ ap Some (m ∙ sym l)

-- nothing is written, and one place more
pub put-nothing : (out : List ℕ) (at n : ℕ) → Put out out at (decimal_field 0 n)
put-nothing out at n = rw (field-none n) (put-none out at)

pub put-place : {out₀ out : List ℕ} (n p i : ℕ) {left b : ℕ} → i < length out₀ → left ≡ n / 10 ^ p → b ≡ place_byte left p
    → Put out₀ out (i + 1) (decimal_field p n) → Put out₀ (set out i b) i (decimal_field (p + 1) n)
put-place n p i {left} {b} h e f v =
    let byte : b ≡ decimal_place n p = f ∙ ap (λ (x : ℕ). place_byte x p) e in
    rw (add-one, field-more p n, ← byte) (put-before b h v)

-- every number that the field is wide enough for
pub decimal-trip : (width n : ℕ) → 0 < width → n < 10 ^ width → decimal_shown (decimal_field width n) ≡ Some n
decimal-trip zero n h l = absurd (omega arith)
decimal-trip (suc p) n h l = decimal-shown p n ∙ ap Some (mod-eq_of_lt {n = n} {m = 10 ^ suc p} l)

-- 0, 12345 and 2^32 - 1
pub field-of-zero : decimal_field 5 0 ≡ 32 ∷ 32 ∷ 32 ∷ 32 ∷ 48 ∷ []
unfolding decimal_field
field-of-zero = refl

pub field-filled : decimal_field 5 12345 ≡ 49 ∷ 50 ∷ 51 ∷ 52 ∷ 53 ∷ []
unfolding decimal_field
field-filled = refl

pub field-of-most : decimal_field 11 4294967295 ≡ 32 ∷ 52 ∷ 50 ∷ 57 ∷ 52 ∷ 57 ∷ 54 ∷ 55 ∷ 50 ∷ 57 ∷ 53 ∷ []
unfolding decimal_field
field-of-most = refl

-- a field too narrow for its number
pub field-narrow : decimal_field 3 100050 ≡ 48 ∷ 53 ∷ 48 ∷ []
unfolding decimal_field
field-narrow = refl
