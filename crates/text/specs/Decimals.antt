-- One byte of a field in base ten, as the code finds it.
-- Assumes nothing.
use Rattle.std.specs.Prelude.{ℕ, ◌+◌, ◌%◌, ◌&&◌, cond, ltb, eqb}

-- the byte at place p of a number that is `left` without the places behind p
abbrev pub place_byte : ℕ → ℕ → ℕ
place_byte left p = cond (ltb 0 p && eqb left 0) 32 (48 + left % 10)
