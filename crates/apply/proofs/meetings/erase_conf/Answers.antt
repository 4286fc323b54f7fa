-- The writes of kind 13 leave the words of the machine's state.
-- Assumes nothing.
use mathlib.Core.Path.{refl, ◌∙◌, ap}
use Rattle.model.specs.Kinds.{kind_of, Kind.erase_conf}
use Rattle.model.specs.Words.{conf_pairs}
use Rattle.apply.proofs.Arms.{known, b_few, span}
use Rattle.apply.proofs.Done.{done-erase_conf}
use Rattle.apply.proofs.meetings.erase_conf.Goals as goal

pub drop-requires : goal.drop-requires
unfolding kind_of
drop-requires c = let w = known erase_conf c.requires.good c.args.site.sited c.requires.r_value (ap kind_of c.requires.kind_value) in
    record { span = span w conf_pairs refl; who_bound = b_few w refl }

pub returns : goal.returns
unfolding kind_of
returns c = let w = known erase_conf c.requires.good c.args.site.sited c.requires.r_value (ap kind_of c.requires.kind_value) in
    c.drop.ensures.is ∙ done-erase_conf w
