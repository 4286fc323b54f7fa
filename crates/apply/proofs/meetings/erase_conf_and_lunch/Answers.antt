-- The writes of kind 16 leave the words of the machine's state.
-- Assumes nothing.
use mathlib.Core.Path.{refl, ◌∙◌, ap}
use Rattle.model.specs.Kinds.{kind_of, Kind.erase_conf_and_lunch}
use Rattle.model.specs.Words.{conf_pairs}
use Rattle.apply.proofs.Arms.{known, laid, b-ok, span}
use Rattle.apply.proofs.Done.{done-erase_conf_and_lunch}
use Rattle.apply.proofs.meetings.erase_conf_and_lunch.Goals as goal

pub erase_conf_and_lunch-requires : goal.erase_conf_and_lunch-requires
unfolding kind_of
erase_conf_and_lunch-requires c = let w = known erase_conf_and_lunch c.requires.good c.args.site.sited c.requires.r_value (ap kind_of c.requires.kind_value) in
    record { laid = laid w; last_lt_slots = (span w conf_pairs refl).slot; b_lt_meetings = b-ok w _ refl }

pub returns : goal.returns
unfolding kind_of
returns c = let w = known erase_conf_and_lunch c.requires.good c.args.site.sited c.requires.r_value (ap kind_of c.requires.kind_value) in
    c.erase_conf_and_lunch.ensures.is ∙ done-erase_conf_and_lunch w
