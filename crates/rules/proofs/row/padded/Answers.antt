-- Only the last word can have unused bits.
-- Assumes nothing.
use Prim.Native.Nat.{◌-◌, ◌/◌, ◌%◌, ◌^◌}
use lib.Dec.{eqb}
use lib.ListN.{get_or, length}
use Rattle.rules.specs.Rows.{Padded}
use borrow.Author.Tests.{eqb-true, eq-eqb}
use Rattle.rules.proofs.Answers.{decide}
use Rattle.rules.proofs.Cells.{pad-by, pad-is}
use Rattle.rules.proofs.row.padded.Goals as goal

pub returns : goal.returns
returns c =
    let row = c.args.row.now in
    let n = c.args.n in
    decide {P = Padded row n} (eqb (get_or row (length row - 1) 0 / 2 ^ (n % 32)) 0)
    (λ e. pad-by row n (λ j. (c.type_inv.row j).fits) c.requires.2 c.if-used-eq0.false (eqb-true _ _ e))
    (λ p. eq-eqb _ _ (pad-is row n (λ j. (c.type_inv.row j).fits) c.requires.2 c.requires.0
    c.if-used-eq0.false p))
