-- The grid lies in the words of a good diary.
-- Assumes nothing.
use mathlib.Core.Path.{refl}
use Rattle.book.specs.declared.grid.Grids.{Grids}
use Rattle.model.specs.Words.{conf_pairs}
use Rattle.book.proofs.Goods.{site-lies}
use Rattle.book.proofs.diary.Diary.conf.Goals as goal

pub invariant_of-result : goal.invariant_of-result
invariant_of-result c = record { lies = site-lies (λ (g : Grids). g.conf) c.args.self.site c.args.self.good conf_pairs refl }
