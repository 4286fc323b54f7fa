-- Answer by answer.
-- Assumes nothing.
use mathlib.Core.List.{List}
use mathlib.Core.Path.{sym, ◌∙◌, ap, subst}
use Prim.Native.Nat.{ℕ}
use native.Mathlib.Omega.{arith}
use Rattle.model.specs.declared.Settings.{Settings}
use Rattle.model.specs.Answers.{Answer, done_with}
use Rattle.model.specs.Ledger.{book_length}
use Rattle.book.specs.Good.{answered}
use Rattle.units.specs.Ranges.{Ranges}
use Rattle.book.proofs.Goods.{ranges-by}
use Rattle.header.proofs.Heads.{good-is}
use Rattle.header.proofs.Fills.{lay-bad, lay-misfit, lay_done, lay-room}
use Rattle.header.proofs.lay.lay.Goals as goal

pub returns-then-not-settings_good : goal.returns-then-not-settings_good
returns-then-not-settings_good c =
    let a = c.args in
    ap (λ (r : Answer). answered r a.book.now) c.refused.ensures
    ∙ sym (lay-bad a.words.now a.book.now (sym c.settings_good.ensures ∙ c.if-not-settings_good.true))

pub length_of-needed-requires : goal.length_of-needed-requires
length_of-needed-requires c =
    let w = c.args.words.now in
    subst (λ (S : Settings). Ranges S) (sym c.settings.ensures)
    (ranges-by _ (good-is w (sym c.settings_good.ensures ∙ c.if-not-settings_good.false)).1)

pub returns-then-book-needed : goal.returns-then-book-needed
returns-then-book-needed c =
    let a = c.args in
    let n = c.length_of-needed.ensures ∙ ap book_length c.settings.ensures in
    ap (λ (r : Answer). answered r a.book.now) c.refused-then-book-needed.ensures
    ∙ sym (lay-misfit a.words.now a.book.now (sym c.settings_good.ensures ∙ c.if-not-settings_good.false)
    (λ e. omega (arith, e, n)))

pub fill-requires : goal.fill-requires
fill-requires c =
    let a = c.args in
    let n = c.length_of-needed.ensures ∙ ap book_length c.settings.ensures in
    lay-room a.words.now a.book.now (sym c.settings_good.ensures ∙ c.if-not-settings_good.false) (omega (arith, n))

pub returns : goal.returns
returns c =
    let a = c.args in
    let n = c.length_of-needed.ensures ∙ ap book_length c.settings.ensures in
    ap (λ (b : List ℕ). answered (done_with 0) b) c.fill.ensures
    ∙ sym (lay_done a.words.now a.book.now (sym c.settings_good.ensures ∙ c.if-not-settings_good.false) (omega (arith, n)))
