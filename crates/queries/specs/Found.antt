-- What a search for the lowest slot finds, of a test that answers for each slot.
-- Assumes nothing.
use Rattle.std.specs.Prelude.{ℕ, ◌+◌, ◌≤◌, ◌≡◌, Bool, not, cond, leb, Option}
use Rattle.model.specs.Bounded.{failing}

-- r is the lowest slot of first..last whose answer is yes: wherever each slot's answer is no exactly where t holds, it is the lowest that
-- fails t
abbrev pub IsFirst : (ℕ → Bool → Type 0) → ℕ → ℕ → Option ℕ → Type 0
IsFirst answer first last r =
    (t : ℕ → Bool) → ((i : ℕ) (b : Bool) → first ≤ i → i ≤ last → answer i b → t i ≡ not b) → r ≡ failing t first last

-- the slot between two; the last one where there is none
unfoldable pub middle_of : ℕ → ℕ → ℕ
middle_of first last = cond (leb last first) last (first + 1)
