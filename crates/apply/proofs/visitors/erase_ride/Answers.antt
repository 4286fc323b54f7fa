-- The writes of kind 7 leave the words of the machine's state.
-- Assumes nothing.
use mathlib.Core.Path.{refl, ◌∙◌, ap}
use Rattle.model.specs.Kinds.{kind_of, Kind.erase_ride}
use Rattle.model.specs.Words.{ride_cells}
use Rattle.apply.proofs.Arms.{known, span, item_a}
use Rattle.apply.proofs.Done.{done-erase_ride}
use Rattle.apply.proofs.visitors.erase_ride.Goals as goal

pub take-requires : goal.take-requires
unfolding kind_of
take-requires c = let w = known erase_ride c.requires.good c.args.site.sited c.requires.r_value (ap kind_of c.requires.kind_value) in
    record { span = span w ride_cells refl; item_lt_g = item_a w ride_cells refl }

pub returns : goal.returns
unfolding kind_of
returns c = let w = known erase_ride c.requires.good c.args.site.sited c.requires.r_value (ap kind_of c.requires.kind_value) in
    c.take.ensures.is ∙ done-erase_ride w
