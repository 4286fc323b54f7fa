-- The writes of kind 10 leave the words of the machine's state.
-- Assumes nothing.
use mathlib.Core.Path.{refl, ◌∙◌, ap}
use Rattle.model.specs.Kinds.{kind_of, Kind.add_attend}
use Rattle.model.specs.Words.{attend_cells}
use Rattle.apply.proofs.Arms.{known, a_few, span, item_b}
use Rattle.apply.proofs.Done.{done-add_attend}
use Rattle.apply.proofs.meetings.add_attend.Goals as goal

pub entry-c-requires : goal.entry-c-requires
unfolding kind_of
entry-c-requires c = let w = known add_attend c.requires.good c.args.site.sited c.requires.r_value (ap kind_of c.requires.kind_value) in
    a_few w refl

pub add-requires : goal.add-requires
unfolding kind_of
add-requires c = let w = known add_attend c.requires.good c.args.site.sited c.requires.r_value (ap kind_of c.requires.kind_value) in
    record { span = span w attend_cells refl; item_lt_g = item_b w attend_cells refl }

pub returns : goal.returns
unfolding kind_of
returns c = let w = known add_attend c.requires.good c.args.site.sited c.requires.r_value (ap kind_of c.requires.kind_value) in
    c.add.ensures.is ∙ done-add_attend w c.entry-c.ensures
