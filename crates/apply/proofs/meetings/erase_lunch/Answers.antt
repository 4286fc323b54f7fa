-- The writes of kind 15 leave the words of the machine's state.
-- Assumes nothing.
use mathlib.Core.Path.{refl, ◌∙◌, ap}
use Rattle.model.specs.Kinds.{kind_of, Kind.erase_lunch}
use Rattle.model.specs.Words.{lunch_triples}
use Rattle.apply.proofs.Arms.{known, span, item_b}
use Rattle.apply.proofs.Done.{done-erase_lunch}
use Rattle.apply.proofs.meetings.erase_lunch.Goals as goal

pub take-requires : goal.take-requires
unfolding kind_of
take-requires c = let w = known erase_lunch c.requires.good c.args.site.sited c.requires.r_value (ap kind_of c.requires.kind_value) in
    record { span = span w lunch_triples refl; item_lt_g = item_b w lunch_triples refl }

pub returns : goal.returns
unfolding kind_of
returns c = let w = known erase_lunch c.requires.good c.args.site.sited c.requires.r_value (ap kind_of c.requires.kind_value) in
    c.take.ensures.is ∙ done-erase_lunch w
