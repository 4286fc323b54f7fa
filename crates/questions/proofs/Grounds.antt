-- What a question of cells asks of a grid, from what is known of a good book.
-- Assumes nothing.
use Prim.Native.Nat.{ℕ, ◌<◌}
use mathlib.Core.Path.{◌≡◌, sym, subst}
use mathlib.Core.List.{List}
use Rattle.book.specs.declared.grid.Grid.{Grid}
use Rattle.book.specs.Lent.{Lies}
use Rattle.book.specs.Grids.{grid_of}
use Rattle.book.specs.Good.{Good}
use Rattle.book.proofs.Goods.{good-laid}
use Rattle.book.proofs.Regions.{lies}
use Rattle.model.specs.declared.Settings.{Settings}
use Rattle.model.specs.Words.{Region, slots, items}

pub ground : {S : Settings} {b : List ℕ} {g : Grid} {i j : ℕ} → Good S b → (p : Region) → g ≡ grid_of S p → i < slots S p → j < items S p
    → (Lies g b) × ((i < g.slots) × (j < g.items))
ground {S} {b} {g} {i} {j} good p e h k =
    subst (λ (g : Grid). (Lies g b) × ((i < g.slots) × (j < g.items))) (sym e) (lies S b (good-laid good) p, (h, k))

-- the same of a question of whole rows
pub row-ground : {S : Settings} {b : List ℕ} {g : Grid} {i : ℕ} → Good S b → (p : Region) → g ≡ grid_of S p → i < slots S p
    → (Lies g b) × (i < g.slots)
row-ground {S} {b} {g} {i} good p e h = subst (λ (g : Grid). (Lies g b) × (i < g.slots)) (sym e) (lies S b (good-laid good) p, h)
