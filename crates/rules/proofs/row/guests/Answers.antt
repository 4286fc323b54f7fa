-- The rest of the pass gives the answer.
-- Assumes nothing.
use Prim.Native.Nat.{◌+◌}
use mathlib.Core.List.{List}
use mathlib.Core.Path.{sym, ◌∙◌, ap}
use mathlib.Core.Bool.{Bool, false, not, ◌||◌}
use native.Mathlib.Omega.{arith}
use lib.ListN.{length, drop, length-set, get_or}
use Rattle.rules.proofs.Answers.{decide}
use Rattle.rules.proofs.Passing.{pass, mark-is, mark-none, mark-more, pass-more, pass-end, says, said}
use Rattle.rules.proofs.row.guests.Goals as goal

pub loop-cell-preserved : goal.loop-cell-preserved
loop-cell-preserved c =
    let row = c.args.row.now in
    let i = c.loop-cell.cell-index in
    let seen = c.loop-cell.seen in
    let w = get_or row i 0 in
    let l = c.requires.by_index i (omega arith) in
    let m = mark-is seen w c.loop-cell.invariant.1 (omega arith) in (
      ap length m ∙ length-set seen w _ ∙ c.loop-cell.invariant.0,
      ap (λ (s : List Bool). get_or s 0 false) m ∙ mark-none seen w (omega arith) c.loop-cell.invariant.1,
      ap (λ (s : List Bool). pass (drop (i + 1) row) s (c.loop-cell.bad || get_or seen w false)) m
          ∙ sym (pass-more row seen c.loop-cell.bad i (omega arith)) ∙ c.loop-cell.invariant.2,
      λ v h e. ap (λ (s : List Bool). get_or s v false) m ∙ mark-more c.args.seen.now seen w (omega arith) c.loop-cell.invariant.3 v h e,
    )

pub returns : goal.returns
returns c =
    let row = c.args.row.now in
    let seen = c.args.seen.now in
    let e = pass-end row c.loop-cell.seen c.loop-cell.bad c.loop-cell.cell-index (omega arith) ∙ c.loop-cell.invariant.2 in
    record {
      decides = decide (not c.loop-cell.bad) (λ t. says row seen c.requires.by_index (sym e ∙ t)) (λ g. e ∙ said row seen c.requires.by_index g);
      marked = c.loop-cell.invariant.3;
    }
