-- Parts of what a state shows, by name.
-- Assumes nothing.
use Rattle.std.specs.Prelude.{ℕ, ◌+◌, ◌-◌, ◌≤◌, ◌≡◌, Bool, not, ◌&&◌, List, eqb, set, replicate}
use Rattle.book.specs.declared.grid.Grid.{Grid}
use Rattle.book.specs.Grids.{cell_at}
use Rattle.model.specs.Bounded.{any, is_some, one, sum_from}
use Rattle.model.specs.State.{State, seats_of}

-- a meeting has the conference room c in session i
unfoldable pub room_taken : State → ℕ → ℕ → Bool
room_taken x c i = any (λ m. is_some (x.conf i c m)) x.settings.meetings

-- r seats are the meeting's in the dining room, few enough to be added
pub record Seats (x : State) (date room meeting r : ℕ) : Type 0 where
  pub is : r ≡ seats_of (x.lunch date room meeting)
  pub few : r ≤ 1000

-- weights of what a lunch cell holds: 1 for one dining room's number plus 1, and 0 for all else
abbrev pub weights_of : ℕ → List ℕ
weights_of room = set (replicate 17 0) (room + 1) 1

-- full cells of a column in the slots from lo to before hi
unfoldable pub column_count : Grid → List ℕ → ℕ → ℕ → ℕ → ℕ
column_count g b j lo hi = sum_from (λ i. one (not (eqb (cell_at g b i j) 0))) lo (hi - lo)

-- the cells of item k in the slots h, i and j are empty
unfoldable pub empty_in : Grid → List ℕ → ℕ → ℕ → ℕ → ℕ → Bool
empty_in g b h i j k = eqb (cell_at g b h k) 0 && eqb (cell_at g b i k) 0 && eqb (cell_at g b j k) 0
