-- Leave on the date of the slot.
-- Assumes nothing.
use Prim.Native.Nat.{ℕ}
use mathlib.Core.Path.{◌≡◌, ◌∙◌, ap}
use native.Mathlib.Omega.{arith}
use Rattle.book.specs.Lent.{reading}
use Rattle.book.proofs.Goods.{good-laid}
use Rattle.model.specs.Kinds.{date_of}
use Rattle.model.specs.Reading.{state_of}
use Rattle.units.proofs.Slots.{date-lt}
use Rattle.questions.specs.Asked.{holds_in}
use Rattle.questions.proofs.slots.on_leave_in.Goals as goal

pub date_of-date-requires : goal.date_of-date-requires
date_of-date-requires g c = (good-laid c.args.diary.good).ranges

pub on_leave-requires-clause-date_lt_dates : goal.on_leave-requires-clause-date_lt_dates
on_leave-requires-clause-date_lt_dates g c =
    let a = c.args in
    let e = rw c.numbered.ensures at c.date_of-date.ensures in
    omega (arith, e, date-lt a.diary.site.settings (good-laid a.diary.good).ranges g.U.Slot.unit a.i c.requires.i_bound)

pub returns : goal.returns
unfolding holds_in
returns g c =
    let a = c.args in
    let e : c.date_of-date.result.0 ≡ date_of a.diary.site.settings g.U.Slot.unit a.i = rw c.numbered.ensures at c.date_of-date.ensures in
    c.on_leave.ensures ∙ ap (λ (d : ℕ). (state_of (reading a.diary.words.now)).leave d a.visitor) e
