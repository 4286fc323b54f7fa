-- The grid lies in the words of a good diary.
-- Assumes nothing.
use mathlib.Core.Path.{refl}
use Rattle.book.specs.declared.grid.Grids.{Grids}
use Rattle.model.specs.Words.{lunch_triples}
use Rattle.book.proofs.Goods.{site-lies}
use Rattle.book.proofs.diary.Diary.lunch.Goals as goal

pub invariant_of-result : goal.invariant_of-result
invariant_of-result c = record { lies = site-lies (λ (g : Grids). g.lunch) c.args.self.site c.args.self.good lunch_triples refl }
