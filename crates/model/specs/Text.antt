-- Text: numbers as bytes, in hexadecimal (rule 11.2) and in base ten.
-- Assumes nothing.
use Rattle.std.specs.Prelude.{ℕ, zero, suc, ◌+◌, ◌-◌, ◌*◌, ◌/◌, ◌%◌, ◌^◌, ◌&&◌, cond, List, [], ◌∷◌, ◌++◌, leb, ltb, eqb}
use Rattle.std.specs.Prelude.{Option, None, Some}
use Rattle.model.specs.Bounded.{found, within, list}

-- hexadecimal in lower case: the byte of a digit below 16; the value of a byte, if it is one of the sixteen digits (rule 11.2)
abbrev pub digit : ℕ → ℕ
digit d = cond (leb d 9) (48 + d) (87 + d)

abbrev pub digit_value : ℕ → Option ℕ
digit_value b = cond (within 48 57 b) (Some (b - 48)) (cond (within 97 102 b) (Some (b - 87)) None)

-- the eight digits of a word, the highest first, and those of a list of words, one behind the other
abbrev pub word_digits : ℕ → List ℕ
word_digits w = list (λ k. digit (w / 16 ^ (7 - k) % 16)) 8

unfoldable pub hexadecimal : List ℕ → List ℕ
hexadecimal [] = []
hexadecimal (w ∷ ws) = word_digits w ++ hexadecimal ws

-- the number that a list of digits shows
unfoldable pub shown_from : ℕ → List ℕ → ℕ
shown_from w [] = w
shown_from w (b ∷ bs) = shown_from (w * 16 + found (digit_value b) (λ d. d)) bs

abbrev pub shown : List ℕ → ℕ
shown bs = shown_from 0 bs

-- base ten: the byte of the place of 10 ^ p is the number's digit there, and a space where the number has none; the last place has one
-- in any case
abbrev pub decimal_place : ℕ → ℕ → ℕ
decimal_place n p = cond (ltb 0 p && eqb (n / 10 ^ p) 0) 32 (48 + n / 10 ^ p % 10)

-- A number in a field of so many bytes, right-aligned: its places from the highest to the last. A field too narrow for the number has the
-- number's last digits, each zero among them too.
unfoldable pub decimal_field : ℕ → ℕ → List ℕ
decimal_field zero n = []
decimal_field (suc p) n = decimal_place n p ∷ decimal_field p n

-- the number that a field shows: spaces, and then digits alone, at least one
unfoldable pub decimal_from : ℕ → List ℕ → Option ℕ
decimal_from n [] = Some n
decimal_from n (b ∷ bs) = cond (within 48 57 b) (decimal_from (n * 10 + (b - 48)) bs) None

unfoldable pub decimal_shown : List ℕ → Option ℕ
decimal_shown [] = None
decimal_shown (b ∷ bs) = cond (eqb b 32) (decimal_shown bs) (decimal_from 0 (b ∷ bs))
