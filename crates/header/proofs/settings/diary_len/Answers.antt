-- The diary ends with its last region.
-- Assumes nothing.
use mathlib.Core.Path.{sym, ◌∙◌, ap, subst}
use Rattle.model.specs.Words.{ride_cells}
use Rattle.book.specs.declared.grid.Grid.{Grid}
use Rattle.book.specs.declared.grid.Grids.{Grids}
use Rattle.book.specs.Grids.{Small, end}
use Rattle.book.proofs.Regions.{small}
use Rattle.header.proofs.Heads.{book-end}
use Rattle.header.proofs.settings.diary_len.Goals as goal

pub past-requires : goal.past-requires
past-requires c =
    subst (λ (g : Grid). Small g) (sym (ap (λ (g : Grids). g.ride) c.grids_of-grids.ensures)) (small c.args.s c.requires ride_cells)

pub returns : goal.returns
returns c =
    c.past.ensures ∙ ap (λ (g : Grids). end g.ride) c.grids_of-grids.ensures ∙ book-end c.args.s
