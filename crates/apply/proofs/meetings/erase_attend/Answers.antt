-- The writes of kind 11 leave the words of the machine's state.
-- Assumes nothing.
use mathlib.Core.Path.{refl, ◌∙◌, ap}
use Rattle.model.specs.Kinds.{kind_of, Kind.erase_attend}
use Rattle.model.specs.Words.{attend_cells}
use Rattle.apply.proofs.Arms.{known, span, item_b}
use Rattle.apply.proofs.Done.{done-erase_attend}
use Rattle.apply.proofs.meetings.erase_attend.Goals as goal

pub take-requires : goal.take-requires
unfolding kind_of
take-requires c = let w = known erase_attend c.requires.good c.args.site.sited c.requires.r_value (ap kind_of c.requires.kind_value) in
    record { span = span w attend_cells refl; item_lt_g = item_b w attend_cells refl }

pub returns : goal.returns
unfolding kind_of
returns c = let w = known erase_attend c.requires.good c.args.site.sited c.requires.r_value (ap kind_of c.requires.kind_value) in
    c.take.ensures.is ∙ done-erase_attend w
