-- The writes of kind 2 leave the words of the machine's state.
-- Assumes nothing.
use mathlib.Core.Path.{refl, ◌∙◌, ap}
use Rattle.model.specs.Kinds.{kind_of, Kind.end_leave}
use Rattle.model.specs.Words.{leaves}
use Rattle.apply.proofs.Arms.{known, span, pool_b}
use Rattle.apply.proofs.Done.{done-end_leave}
use Rattle.apply.proofs.visitors.end_leave.Goals as goal

pub turn-requires : goal.turn-requires
unfolding kind_of
turn-requires c = let w = known end_leave c.requires.good c.args.site.sited c.requires.r_value (ap kind_of c.requires.kind_value) in
    record { span = span w leaves refl; v_bound = pool_b w leaves refl refl }

pub returns : goal.returns
unfolding kind_of
returns c = let w = known end_leave c.requires.good c.args.site.sited c.requires.r_value (ap kind_of c.requires.kind_value) in
    c.turn.ensures.is ∙ done-end_leave w
