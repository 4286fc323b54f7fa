-- Bytes that are written behind what was written before.
-- Assumes nothing.
use Rattle.std.specs.Prelude.{ℕ, ◌+◌, ◌≡◌, List, ◌++◌, length, take, drop}

-- `bytes` were written at `at`, behind what stood there, and what stands behind them is as it was
pub record Put (before after : List ℕ) (at : ℕ) (bytes : List ℕ) : Type 0 where
  pub kept : length after ≡ length before
  pub wrote : take (at + length bytes) after ≡ take at before ++ bytes
  pub past : drop (at + length bytes) after ≡ drop (at + length bytes) before
