-- `bits::mark`: the pool word of the member, with its bit turned.
-- Assumes nothing.
use Rattle.std.specs.Prelude.{ℕ, ◌/◌, ◌%◌, eqb, not}
use Rattle.std.proofs.Common.{◌∙◌, ap}
use Rattle.book.specs.Lent.{reading}
use Rattle.book.specs.Stores.{replaced}
use Rattle.apply.specs.Stores.{flipped, marked}
use Rattle.apply.proofs.bits.mark.Goals as goal

pub returns : goal.returns
unfolding marked
returns g c =
    let a = c.args in
    let w = c.put_word.ensures in
    let e = c.flip-next.ensures ∙ ap (λ (w : ℕ). flipped (not (eqb g.row.ON 0)) w (a.v % 32)) c.cell-word.ensures in
    record { is = w.is ∙ ap (λ (w : ℕ). replaced a.g w a.slot (a.v / 32) (reading a.book.now)) e; stays = w.stays }
