-- The meeting has a lunch where its cell is full.
-- Assumes nothing.
use Rattle.book.specs.Lent.{reading}
use Prim.Native.Nat.{ℕ}
use mathlib.Core.Path.{sym, ◌∙◌, ap}
use mathlib.Core.Bool.{not}
use lib.Dec.{eqb}
use Rattle.queries.proofs.Shows.{lunch-held-is}
use Rattle.queries.proofs.entries.lunch_held.Goals as goal

pub returns : goal.returns
returns c =
    let a = c.args in
    let e = rw (c.lunch.ensures.grid, c.lunch.ensures.words, a.diary.site.sited) at c.cell.ensures in
    ap (λ (w : ℕ). not (eqb w 0)) e
    ∙ sym (lunch-held-is a.diary.site.settings (reading a.diary.words.now) a.diary.good a.date.0 a.meeting c.requires.date_lt_dates c.requires.meeting_lt_meetings)
