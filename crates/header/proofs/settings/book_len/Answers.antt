-- By question 24.
-- Assumes nothing.
use mathlib.Core.Path.{sym, ◌∙◌, ap, subst}
use Rattle.std.specs.Prelude.{Some}
use Rattle.model.specs.declared.Settings.{Settings}
use Rattle.model.specs.Ledger.{book_length}
use Rattle.units.specs.Ranges.{Ranges}
use Rattle.book.proofs.Goods.{ranges-by}
use Rattle.header.proofs.Heads.{good-is, needed-none, needed-some}
use Rattle.header.proofs.settings.book_len.Goals as goal

pub returns-then-not-settings_good : goal.returns-then-not-settings_good
returns-then-not-settings_good c =
    sym (needed-none c.args.words.now (sym c.settings_good.ensures ∙ c.if-not-settings_good.true))

pub length_of-requires : goal.length_of-requires
length_of-requires c =
    let w = c.args.words.now in
    subst (λ (S : Settings). Ranges S) (sym c.settings.ensures)
    (ranges-by _ (good-is w (sym c.settings_good.ensures ∙ c.if-not-settings_good.false)).1)

pub returns : goal.returns
returns c =
    let w = c.args.words.now in
    ap Some (c.length_of.ensures ∙ ap book_length c.settings.ensures)
    ∙ sym (needed-some w (sym c.settings_good.ensures ∙ c.if-not-settings_good.false))
