-- Digits of bytes and of lists of bytes.
-- Assumes nothing.
use Prim.Native.Nat.{ℕ, zero, suc, ◌+◌, ◌-◌, ◌*◌, ◌/◌, ◌%◌, ◌≤◌, ◌<◌}
use native.Mathlib.Omega.{arith}
use mathlib.Core.Path.{◌≡◌, refl, sym, ◌∙◌, ap}
use mathlib.Core.Bool.{Bool, true, false, ◌&&◌, cond, and_assoc}
use Rattle.std.specs.Prelude.{None, Some}
use mathlib.Core.List.{List, [], ◌∷◌, ◌++◌}
use lib.Dec.{leb}
use lib.ListN.{length, take, drop, get_or}
use lib.Seq.{take-add}
use borrow.Author.Tests.{leb-true}
use Rattle.model.specs.Bounded.{is_some, found, within}
use Rattle.model.specs.Text.{shown_from}
use Rattle.model.proofs.Search.{and_left, and_right, both}
use Rattle.text.specs.Digits.{is_digit, value_of, digits_only}

pub within-is : (a z b : ℕ) → within a z b ≡ true → (a ≤ b) × (b ≤ z)
within-is a z b h = (leb-true a b (and_left (leb a b) _ h), leb-true b z (and_right (leb a b) _ h))

-- the value of a digit is below 16, and one formula gives it for both kinds of digits
value-by : (b : ℕ) (s t : Bool) → within 48 57 b ≡ s → within 97 102 b ≡ t
    → is_some (cond s (Some (b - 48)) (cond t (Some (b - 87)) None)) ≡ true
    → (b % 16 + b / 64 * 9 ≡ found (cond s (Some (b - 48)) (cond t (Some (b - 87)) None)) (λ d. d))
    × (found (cond s (Some (b - 48)) (cond t (Some (b - 87)) None)) (λ d. d) < 16)
value-by b true t hs ht h = let w = within-is 48 57 b hs in (omega arith, omega arith)
value-by b false true hs ht h = let w = within-is 97 102 b ht in (omega arith, omega arith)
value-by b false false hs ht h = both h refl

pub value-is : (b : ℕ) → is_digit b ≡ true → (b % 16 + b / 64 * 9 ≡ value_of b) × (value_of b < 16)
value-is b h = value-by b _ _ refl refl h

-- every byte of two lists, and of a part of one
pub digits_append : (l m : List ℕ) → digits_only (l ++ m) ≡ digits_only l && digits_only m
digits_append [] m = refl
digits_append (a ∷ l) m = ap (λ (t : Bool). is_digit a && t) (digits_append l m) ∙ sym (and_assoc (is_digit a) (digits_only l) (digits_only m))

pub digits_more : (l : List ℕ) (m n : ℕ) → digits_only (take (m + n) l) ≡ digits_only (take m l) && digits_only (take n (drop m l))
digits_more l m n = ap digits_only (take-add m n l) ∙ digits_append (take m l) (take n (drop m l))

pub digits-part : (l : List ℕ) (m n k : ℕ) → m + n ≤ k → digits_only (take k l) ≡ true → digits_only (take n (drop m l)) ≡ true
digits-part l m n k h e =
    let s : m + n + (k - (m + n)) ≡ k = omega arith in
    let f : digits_only (take (m + n) l) ≡ true = and_left (digits_only (take (m + n) l)) _ (sym (digits_more l (m + n) (k - (m + n))) ∙ rw s e) in
    and_right (digits_only (take m l)) _ (sym (digits_more l m n) ∙ f)

pub digit_at : (l : List ℕ) (i : ℕ) → digits_only l ≡ true → i < length l → is_digit (get_or l i 0) ≡ true
digit_at [] i d h = absurd (omega arith)
digit_at (b ∷ l) zero d h = and_left (is_digit b) _ d
digit_at (b ∷ l) (suc i) d h = digit_at l i (and_right (is_digit b) _ d) (omega arith)

pub shown-none : (w : ℕ) → shown_from w [] ≡ w
unfolding shown_from
shown-none w = refl
