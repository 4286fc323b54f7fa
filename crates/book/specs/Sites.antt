-- The site of settings.
-- Assumes nothing.
use Rattle.std.specs.Prelude.{refl}
use Rattle.book.specs.declared.site.Site.{Site}
use Rattle.book.specs.Grids.{grids_of}
use Rattle.model.specs.declared.Settings.{Settings}

-- its grids are those of its settings
abbrev pub site_of : Settings → Site
site_of S = record { settings = S; grids = grids_of S; sited = refl }
