-- The digits of a byte and of a list of bytes, and eight of them as one number.
-- Assumes nothing.
use Rattle.std.specs.Prelude.{ℕ, zero, suc, ◌+◌, ◌-◌, ◌*◌, ◌/◌, ◌%◌, ◌^◌, ◌<◌, Bool, cond, List, Option, Some, None}
use Rattle.model.specs.Bounded.{is_some, found, every, list}
use Rattle.model.specs.Text.{digit_value, shown}

-- a byte is one of the sixteen digits; its value, 0 for any other byte
abbrev pub is_digit : ℕ → Bool
is_digit b = is_some (digit_value b)

abbrev pub value_of : ℕ → ℕ
value_of b = found (digit_value b) (λ d. d)

abbrev pub digits_only : List ℕ → Bool
digits_only l = every is_digit l

-- the number of n places in a base, place 0 the highest
abbrev pub numeral : ℕ → (ℕ → ℕ) → ℕ → ℕ
numeral base f zero = 0
numeral base f (suc n) = numeral base f n * base + f n

-- byte k of a number of 64 bits, byte 0 the highest, and all eight of them
abbrev pub byte_at : ℕ → ℕ → ℕ
byte_at x k = x / 256 ^ (7 - k) % 256

abbrev pub eight_bytes : ℕ → List ℕ
eight_bytes x = list (byte_at x) 8

-- digit k of a word as a value, digit 0 the highest
abbrev pub nibble : ℕ → ℕ → ℕ
nibble w k = w / 16 ^ (7 - k) % 16

-- each byte of v is the value of a digit
unfoldable pub Values : ℕ → Type 0
Values v = (k : ℕ) → k < 8 → byte_at v k < 16

-- what the code takes for the value of a byte: of a digit it is the digit's
abbrev pub value_in : ℕ → ℕ
value_in b = (b % 16 + b / 64 % 2 * 9) % 16

-- the word that bytes show, if all of them are digits
abbrev pub word_in : List ℕ → Option ℕ
word_in bytes = cond (digits_only bytes) (Some (shown bytes)) None
