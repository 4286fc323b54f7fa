-- The dates keep the laws exactly if the model says so.
-- Assumes nothing.
use mathlib.Core.Path.{◌∙◌, ap}
use Rattle.model.specs.Site.{valid_settings}
use Rattle.book.specs.Lent.{reading}
use Rattle.header.proofs.Heads.{seats-low, laid-valid, laid-is}
use Rattle.checking.proofs.Question2.{lawful-said}
use Rattle.checking.proofs.diary_lawful.Goals as goal

pub settings-s-requires : goal.settings-s-requires
settings-s-requires c = tt

pub caps_of-caps-requires : goal.caps_of-caps-requires
caps_of-caps-requires c = seats-low _ (ap valid_settings c.settings-s.ensures ∙ laid-valid _ c.requires)

pub site_of-site-requires : goal.site_of-site-requires
site_of-site-requires c = (laid-is _ c.requires _ c.settings-s.ensures).ranges

pub dates-requires : goal.dates-requires
unfolding reading
dates-requires c =
    let l = laid-is _ c.requires _ c.settings-s.ensures in
    rw c.site_of-site.ensures (record { laid = l; caps = c.caps_of-caps.ensures })

pub returns : goal.returns
unfolding reading
returns c =
    lawful-said _ _ c.requires _ c.settings-s.ensures (laid-is _ c.requires _ c.settings-s.ensures).ranges c.caps_of-caps.ensures c.dates.result
    (rw c.site_of-site.ensures at c.dates.ensures)
