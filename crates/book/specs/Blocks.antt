-- A block of a grid: rows one after the other, as a part of the words.
-- Assumes nothing.
use Rattle.std.specs.Prelude.{ℕ, ◌+◌, ◌*◌, ◌-◌, ◌≡◌, List, length, take, drop}
use Rattle.book.specs.declared.grid.Grid.{Grid}

-- a part of a slice: what it is, and its length
pub record Part (r : List ℕ) (n : ℕ) (want : List ℕ) : Type 0 where
  pub is : r ≡ want
  pub long : length r ≡ n

-- the words of a row
abbrev pub across : Grid → ℕ
across g = g.items * g.width

-- the rows from `from` to before `to`
abbrev pub block_of : Grid → List ℕ → ℕ → ℕ → List ℕ
block_of g b from to = take ((to - from) * across g) (drop (g.base + from * across g) b)
