-- Runs of at most three slots, which are asked without a loop.
-- Assumes nothing.
use Rattle.std.specs.Prelude.{ℕ, ◌+◌, Bool, cond}
use Rattle.std.specs.Prelude.{Option, Some, None}
use Rattle.model.specs.Bounded.{within}

-- a run of one to three slots
abbrev pub is_short : ℕ → ℕ → Bool
is_short first last = within first (first + 2) last

-- the first of three slots for which it is so
unfoldable pub chosen : ℕ → ℕ → ℕ → Bool → Bool → Bool → Option ℕ
chosen first middle last x y z = cond x (Some first) (cond y (Some middle) (cond z (Some last) None))
