-- The words that a lent book gives, and a grid that lies in them. In the wide edition a book is its own words.
-- Assumes nothing.
use Rattle.std.specs.Prelude.{ℕ, List, length}
use denote.Struct.Props as logic
use Rattle.book.specs.declared.grid.Grid.{Grid}
use Rattle.book.specs.Grids.{Fits}

unfoldable pub reading : List ℕ → List ℕ
reading b = b

unfoldable pub Lies : Grid → List ℕ → Type 0
Lies g b = Fits g (length b)

-- The fact has one proof at most, so that a type can carry it.
pub Lies-prop : (g : Grid) (b : List ℕ) → IsProp (Lies g b)
unfolding Lies
Lies-prop g b = Prim.hlevel logic.props
