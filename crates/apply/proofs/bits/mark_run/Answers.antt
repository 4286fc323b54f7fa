-- `bits::mark_run`: no slots, three that may be the same, or many.
-- Assumes nothing.
use Rattle.std.specs.Prelude.{ℕ, ◌-◌, eqb, not}
use Rattle.std.proofs.Common.{◌∙◌, ap}
use Rattle.book.specs.Lent.{reading}
use Rattle.book.proofs.Turns.{over-end, wrote_none}
use Rattle.apply.specs.Stores.{marked_all, marked_three}
use native.Mathlib.Omega.{arith}
use Rattle.apply.proofs.Marks.{three-are-all, middle-min}
use Rattle.apply.proofs.bits.mark_run.Goals as goal

pub returns-then-to-from : goal.returns-then-to-from
unfolding marked_all
returns-then-to-from g c = wrote_none _ _ (over-end _ c.args.from c.args.to _ c.if-to-from.true)

pub returns-then-last-from-le2 : goal.returns-then-last-from-le2
returns-then-last-from-le2 g c =
    let a = c.args in
    let on = not (eqb g.row.ON 0) in
    let w = c.mark_three.ensures in
    record {
      is = w.is
          ∙ ap (λ (n : ℕ). marked_three a.g on a.v a.from n (a.to - 1) (reading a.book.now)) (c.middle_of-middle.ensures ∙ middle-min a.from (a.to - 1) (omega arith))
          ∙ three-are-all a.g on a.v c.requires.v_bound a.from a.to (reading a.book.now) c.requires.lies c.requires.to_le_slots
          c.if-to-from.false c.if-last-from-le2.true;
      stays = w.stays;
    }

pub mark_three-requires-clause-first_lt_slots : goal.mark_three-requires-clause-first_lt_slots
mark_three-requires-clause-first_lt_slots g c =
    let a = c.args in
    let m = c.middle_of-middle.ensures ∙ middle-min a.from (a.to - 1) (omega arith) in
    (omega arith, omega (arith, m), omega arith)
