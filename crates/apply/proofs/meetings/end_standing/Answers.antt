-- The writes of kind 9 leave the words of the machine's state.
-- Assumes nothing.
use mathlib.Core.Path.{refl, ◌∙◌, ap}
use Rattle.model.specs.Kinds.{kind_of, Kind.end_standing}
use Rattle.model.specs.Words.{standings, attend_cells}
use Rattle.apply.proofs.Arms.{known, a_few, span, single, pool_a}
use Rattle.apply.proofs.Done.{done-end_standing}
use Rattle.apply.proofs.meetings.end_standing.Goals as goal

pub end_standing-requires : goal.end_standing-requires
unfolding kind_of
end_standing-requires c = let w = known end_standing c.requires.good c.args.site.sited c.requires.r_value (ap kind_of c.requires.kind_value) in
    record { span = span w standings refl; single = single w attend_cells refl refl; a_bound = pool_a w standings refl refl; a_bound_2 = a_few w refl }

pub returns : goal.returns
unfolding kind_of
returns c = let w = known end_standing c.requires.good c.args.site.sited c.requires.r_value (ap kind_of c.requires.kind_value) in
    c.end_standing.ensures.is ∙ done-end_standing w
