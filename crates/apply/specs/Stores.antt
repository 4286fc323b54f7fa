-- What the kinds do to a list of words: a column filled, a member's bit turned in some slots, and a meeting's sets erased.
-- Assumes nothing.
use Rattle.std.specs.Prelude.{ℕ, ◌+◌, ◌/◌, ◌%◌, ◌≤◌, ◌<◌, ◌≡◌, Bool, true, false, List}
use Rattle.book.specs.declared.grid.Grid.{Grid}
use Rattle.book.specs.declared.grid.Grids.{Grids}
use Rattle.book.specs.declared.puts.Content.{Content}
use Rattle.model.specs.declared.Settings.{Settings}
use Rattle.model.specs.Site.{date_of_session}
use Rattle.book.specs.Grids.{cell_at}
use Rattle.book.specs.Lent.{Lies}
use Rattle.book.specs.Stores.{Wrote, over, empty, stored, replaced, swept}
use Rattle.queries.specs.Shown.{column_count}
use Rattle.pool.specs.Pool.{put, clear}

-- an entry: the number plus 1, and the words beside it
abbrev pub full : ℕ → ℕ → ℕ → Content
full who second third = record { entry = who + 1; second = second; third = third }

-- a column filled
unfoldable pub filled : Grid → ℕ → Content → ℕ → ℕ → List ℕ → List ℕ
filled g j c from to b = over (λ i. stored g c i j) from to b

-- from b to c a column is emptied, and r of its cells were full
pub record Emptied (g : Grid) (j from to : ℕ) (b c : List ℕ) (r : ℕ) : Type 0 where
  pub wrote : Wrote (filled g j empty from to) b c
  pub count : r ≡ column_count g b j from to

-- a pool word with bit k set or cleared; the bit of member v in a slot, and in some slots
abbrev pub flipped : Bool → ℕ → ℕ → ℕ
flipped true w k = put w k
flipped false w k = clear w k

unfoldable pub marked : Grid → Bool → ℕ → ℕ → List ℕ → List ℕ
marked g on v i b = replaced g (flipped on (cell_at g b i (v / 32)) (v % 32)) i (v / 32) b

unfoldable pub marked_all : Grid → Bool → ℕ → ℕ → ℕ → List ℕ → List ℕ
marked_all g on v from to b = over (λ i. marked g on v i) from to b

-- and in three slots, one after the other
unfoldable pub marked_three : Grid → Bool → ℕ → ℕ → ℕ → ℕ → List ℕ → List ℕ
marked_three g on v first middle last b = marked g on v last (marked g on v middle (marked g on v first b))

-- a grid that lies in the words b and has the slots up to last
pub record Span (g : Grid) (b : List ℕ) (last : ℕ) : Type 0 where
  pub lies : Lies g b
  pub narrow : g.width ≤ 3
  pub slot : last < g.slots

-- a grid of one-word cells that lies in the words b and has the slots before `to`
pub record Single (g : Grid) (b : List ℕ) (to : ℕ) : Type 0 where
  pub lies : Lies g b
  pub narrow : g.width ≡ 1
  pub most : to ≤ g.slots

-- kind 9: the meeting's standing, and then its entries in the attend rows
abbrev pub standing_ended : Grids → ℕ → ℕ → ℕ → List ℕ → List ℕ
standing_ended g m first last b = swept g.attend (m + 1) first (last + 1) (marked_all g.standing false m first (last + 1) b)

-- kind 16: the meeting's conference rooms, and then its lunches on the dates from first's to last's
abbrev pub meeting_erased : Settings → Grids → ℕ → ℕ → ℕ → List ℕ → List ℕ
meeting_erased S g m first last b =
    filled g.lunch m empty (date_of_session S first) (date_of_session S last + 1) (swept g.conf (m + 1) first (last + 1) b)
