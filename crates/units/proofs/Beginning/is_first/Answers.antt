-- What the slot before and the slot itself answer, where there are such.
-- Assumes nothing.
use Prim.Native.Nat.{◌-◌}
use mathlib.Core.Path.{◌≡◌, sym, ◌∙◌}
use mathlib.Core.Bool.{false}
use native.Mathlib.Omega.{arith}
use lib.Dec.{leb}
use Rattle.units.specs.Units.{day_of}
use Rattle.units.proofs.Cuts.{begins-at}
use Rattle.units.proofs.Beginning.is_first.Goals as goal
use Rattle.units.proofs.Beginning.is_first.Goals.{then-at-gt0+else-is_on_or_after, else-at-gt0}

pub returns-then-at-self : goal.returns-then-at-self
returns-then-at-self c = λ e.
    let a = c.args in
    begins-at a.self.each a.self.late a.self.n a.self.d a.at c.requires
    (λ k. elim c.if-at-gt0.branch as (λ _. leb a.self.d (day_of a.self.each a.self.late (a.at - 1)) ≡ false) [
      | then-at-gt0+else-is_on_or_after w ↦ sym w.is_on_or_after.ensures ∙ w.if-is_on_or_after.false
      | else-at-gt0 w ↦ absurd (omega arith)
    ])
    (λ _. sym c.is_on_or_after-then-at-self.ensures ∙ e)

pub returns : goal.returns
returns c = λ e.
    let a = c.args in
    begins-at a.self.each a.self.late a.self.n a.self.d a.at c.requires
    (λ k. elim c.if-at-gt0.branch as (λ _. leb a.self.d (day_of a.self.each a.self.late (a.at - 1)) ≡ false) [
      | then-at-gt0+else-is_on_or_after w ↦ sym w.is_on_or_after.ensures ∙ w.if-is_on_or_after.false
      | else-at-gt0 w ↦ absurd (omega arith)
    ])
    (λ k. absurd (omega (arith, k, c.if-at-self.false)))
