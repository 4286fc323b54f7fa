-- `foresee`, with the settings that the book begins with.
-- Assumes nothing.
use mathlib.Core.Path.{sym, subst}
use Rattle.units.specs.Ranges.{Ranges}
use Rattle.book.proofs.Goods.{good-laid, good-part}
use Rattle.step.proofs.foretell.Goals as goal

pub diary_len-requires : goal.diary_len-requires
diary_len-requires c = subst Ranges (sym c.settings-s.ensures) (good-laid (good-part c.requires)).ranges
