-- The writes of kind 4 leave the words of the machine's state.
-- Assumes nothing.
use mathlib.Core.Path.{refl, ◌∙◌, ap}
use Rattle.model.specs.Kinds.{kind_of, Kind.add_hotel}
use Rattle.model.specs.Words.{hotel_cells}
use Rattle.apply.proofs.Arms.{known, b_few, span, item_a}
use Rattle.apply.proofs.Done.{done-add_hotel}
use Rattle.apply.proofs.visitors.add_hotel.Goals as goal

pub entry-c-requires : goal.entry-c-requires
unfolding kind_of
entry-c-requires c = let w = known add_hotel c.requires.good c.args.site.sited c.requires.r_value (ap kind_of c.requires.kind_value) in
    b_few w refl

pub add-requires : goal.add-requires
unfolding kind_of
add-requires c = let w = known add_hotel c.requires.good c.args.site.sited c.requires.r_value (ap kind_of c.requires.kind_value) in
    record { span = span w hotel_cells refl; item_lt_g = item_a w hotel_cells refl }

pub returns : goal.returns
unfolding kind_of
returns c = let w = known add_hotel c.requires.good c.args.site.sited c.requires.r_value (ap kind_of c.requires.kind_value) in
    c.add.ensures.is ∙ done-add_hotel w c.entry-c.ensures
