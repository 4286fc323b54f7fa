-- Round trips: every word comes back from its eight digits, and every eight digits from their word.
-- Assumes nothing.
use Prim.Native.Nat.{ℕ, zero, suc, ◌+◌, ◌-◌, ◌*◌, ◌/◌, ◌%◌, ◌^◌, ◌<◌}
use native.Mathlib.Nat.{mod-one, mod-eq_of_lt, div-one}
use native.Mathlib.Omega.{arith}
use mathlib.Core.Path.{◌≡◌, refl, sym, ◌∙◌, ap, ap₂}
use mathlib.Core.Bool.{Bool, true, false, cond}
use Rattle.std.specs.Prelude.{None, Some}
use mathlib.Core.List.{List, [], ◌∷◌}
use lib.Dec.{leb}
use lib.ListN.{length}
use borrow.Author.Tests.{leb-true, leb-false, le-leb, lt-leb}
use Rattle.model.specs.Bounded.{is_some, found, within}
use Rattle.model.specs.Text.{digit, word_digits, shown_from, shown}
use Rattle.model.proofs.Search.{and_left, and_right, both}
use Rattle.text.specs.Digits.{is_digit, value_of, digits_only}
use Rattle.text.proofs.Places.{next_place, next-left}
use Rattle.text.proofs.Hexes.{value-is, within-is, shown-none}

-- one digit there and back
digit-by : (d : ℕ) (t : Bool) → leb d 9 ≡ t → d < 16 → value_of (cond t (48 + d) (87 + d)) ≡ d
digit-by d true h k =
    let g = leb-true d 9 h in
    simp (le-leb 48 (48 + d) (omega arith), le-leb (48 + d) 57 (omega arith)) (omega arith)
digit-by d false h k =
    let g = leb-false d 9 h in
    simp (le-leb 48 (87 + d) (omega arith), lt-leb (87 + d) 57 (omega arith), le-leb 97 (87 + d) (omega arith), le-leb (87 + d) 102 (omega arith))
    (omega arith)

pub value-digit : (d : ℕ) → d < 16 → value_of (digit d) ≡ d
value-digit d h = digit-by d _ refl h

byte-by : (b : ℕ) (s t : Bool) → within 48 57 b ≡ s → within 97 102 b ≡ t
    → is_some (cond s (Some (b - 48)) (cond t (Some (b - 87)) None)) ≡ true
    → digit (found (cond s (Some (b - 48)) (cond t (Some (b - 87)) None)) (λ d. d)) ≡ b
byte-by b true t hs ht h = let w = within-is 48 57 b hs in simp (le-leb (b - 48) 9 (omega arith)) (omega arith)
byte-by b false true hs ht h = let w = within-is 97 102 b ht in simp (lt-leb (b - 87) 9 (omega arith)) (omega arith)
byte-by b false false hs ht h = both h refl

pub digit_value : (b : ℕ) → is_digit b ≡ true → digit (value_of b) ≡ b
digit_value b h = byte-by b _ _ refl refl h

-- the n low digits of w
abbrev digits : ℕ → ℕ → List ℕ
digits zero w = []
digits (suc n) w = digit (w / 16 ^ n % 16) ∷ digits n w

shown-cons : (acc b : ℕ) (bs : List ℕ) → shown_from acc (b ∷ bs) ≡ shown_from (acc * 16 + value_of b) bs
unfolding shown_from
shown-cons acc b bs = refl

there_and_back : (n acc w : ℕ) → shown_from acc (digits n w) ≡ acc * 16 ^ n + w % 16 ^ n
there_and_back zero acc w = shown-none acc ∙ omega (arith, mod-one w)
there_and_back (suc n) acc w =
    let d = w / 16 ^ n % 16 in
    shown-cons acc (digit d) (digits n w)
    ∙ ap (λ (x : ℕ). shown_from (acc * 16 + x) (digits n w)) (value-digit d (omega arith))
    ∙ there_and_back n (acc * 16 + d) w
    ∙ next_place 16 n acc w (omega arith)

back-and-there : (bs : List ℕ) (acc : ℕ) → digits_only bs ≡ true
    → (shown_from acc bs / 16 ^ length bs ≡ acc) × (digits (length bs) (shown_from acc bs) ≡ bs)
back-and-there [] acc h = (div-one (shown_from acc []) ∙ shown-none acc, refl)
back-and-there (b ∷ bs) acc h =
    let w = shown_from acc (b ∷ bs) in
    let one = and_left (is_digit b) _ h in
    let e = shown-cons acc b bs in
    let ih = back-and-there bs (acc * 16 + value_of b) (and_right (is_digit b) _ h) in
    let i0 : w / 16 ^ length bs ≡ acc * 16 + value_of b = rw e ih.0 in
    let i1 : digits (length bs) w ≡ bs = rw e ih.1 in
    let v = (value-is b one).1 in
    let q : (w / 16 ^ length bs) % 16 ≡ value_of b = omega arith in
    let d = next-left 16 (length bs) w in
    (omega arith, ap₂ ◌∷◌ (ap digit q ∙ digit_value b one) i1)

-- every word below 2^32
pub word-trip : (w : ℕ) → w < 2 ^ 32 → shown (word_digits w) ≡ w
word-trip w h = there_and_back 8 0 w ∙ omega (arith, mod-eq_of_lt {n = w} {m = 16 ^ 8} (omega arith))

-- every eight bytes that are digits
pub bytes-trip : (bs : List ℕ) → length bs ≡ 8 → digits_only bs ≡ true → (shown bs < 2 ^ 32) × (word_digits (shown bs) ≡ bs)
bytes-trip bs n h =
    let t = back-and-there bs 0 h in
    let q : shown bs / 16 ^ 8 ≡ 0 = ap (λ (k : ℕ). shown bs / 16 ^ k) (sym n) ∙ t.0 in
    (omega arith, ap (λ (k : ℕ). digits k (shown bs)) (sym n) ∙ t.1)
