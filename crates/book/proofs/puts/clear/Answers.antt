-- `puts::clear`: a cell that holds w is stored empty, and another one stays.
-- Assumes nothing.
use mathlib.Core.Path.{sym, ◌∙◌, ap}
use Prim.Native.Nat.{ℕ}
use mathlib.Core.Bool.{Bool, cond}
use lib.ListN.{get_or}
use borrow.Author.Tests.{eq-eqb, ne_eqb}
use Rattle.book.specs.Grids.{place, cell_at}
use Rattle.book.specs.Lent.{reading}
use Rattle.book.specs.Stores.{puts, empty, stored, cleared}
use Rattle.book.proofs.Turns.{wrote_by, wrote_none}
use Rattle.book.proofs.Sweeps.{length-cleared}
use Rattle.book.proofs.puts.clear.Goals as goal

pub returns-then-book-n : goal.returns-then-book-n
unfolding reading cleared cell_at
returns-then-book-n c = let a = c.args in
    wrote_none (cleared a.g a.w a.slot a.item) a.book.now
    (ap (λ (t : Bool). cond t (stored a.g empty a.slot a.item a.book.now) a.book.now)
    (ne_eqb (get_or a.book.now (place a.g a.slot a.item 0) 0) a.w
    (λ e. c.if-book-n.true (ap (λ (n : ℕ). get_or a.book.now n 0) c.at-n.ensures.at ∙ e))))

pub returns : goal.returns
unfolding reading cleared stored cell_at
returns c = let a = c.args in
    wrote_by (cleared a.g a.w a.slot a.item) a.book.now _
    (c.store.ensures
    ∙ ap (λ (n : ℕ). puts empty n a.g.width a.book.now) c.at-n.ensures.at
    ∙ ap (λ (t : Bool). cond t (stored a.g empty a.slot a.item a.book.now) a.book.now)
    (sym (eq-eqb (get_or a.book.now (place a.g a.slot a.item 0) 0) a.w
    (ap (λ (n : ℕ). get_or a.book.now n 0) (sym c.at-n.ensures.at) ∙ c.if-book-n.false))))
    (length-cleared a.g a.w a.slot a.item a.book.now)
