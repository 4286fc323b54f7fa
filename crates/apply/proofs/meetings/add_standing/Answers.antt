-- The writes of kind 8 leave the words of the machine's state.
-- Assumes nothing.
use mathlib.Core.Path.{refl, ◌∙◌, ap}
use Rattle.model.specs.Kinds.{kind_of, Kind.add_standing}
use Rattle.model.specs.Words.{standings}
use Rattle.apply.proofs.Arms.{known, span, pool_a}
use Rattle.apply.proofs.Done.{done-add_standing}
use Rattle.apply.proofs.meetings.add_standing.Goals as goal

pub turn-requires : goal.turn-requires
unfolding kind_of
turn-requires c = let w = known add_standing c.requires.good c.args.site.sited c.requires.r_value (ap kind_of c.requires.kind_value) in
    record { span = span w standings refl; v_bound = pool_a w standings refl refl }

pub returns : goal.returns
unfolding kind_of
returns c = let w = known add_standing c.requires.good c.args.site.sited c.requires.r_value (ap kind_of c.requires.kind_value) in
    c.turn.ensures.is ∙ done-add_standing w
