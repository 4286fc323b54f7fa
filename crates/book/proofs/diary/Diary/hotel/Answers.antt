-- The grid lies in the words of a good diary.
-- Assumes nothing.
use mathlib.Core.Path.{refl}
use Rattle.book.specs.declared.grid.Grids.{Grids}
use Rattle.model.specs.Words.{hotel_cells}
use Rattle.book.proofs.Goods.{site-lies}
use Rattle.book.proofs.diary.Diary.hotel.Goals as goal

pub invariant_of-result : goal.invariant_of-result
invariant_of-result c = record { lies = site-lies (λ (g : Grids). g.hotel) c.args.self.site c.args.self.good hotel_cells refl }
