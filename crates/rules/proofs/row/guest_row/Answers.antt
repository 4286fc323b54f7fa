-- No word is past the last entry, and one past the limit is barred.
-- Assumes nothing.
use mathlib.Core.Path.{sym, ◌∙◌, subst}
use mathlib.Core.Bool.{Bool}
use mathlib.Core.List.{List}
use native.Mathlib.Omega.{arith}
use Rattle.rules.specs.Rows.{Free}
use Rattle.rules.proofs.Answers.{relay}
use Rattle.rules.proofs.Zeros.{all-zero, blank-guests}
use Rattle.rules.proofs.Limits.{all-low, low-all, free-guests, guests-free}
use Rattle.rules.proofs.row.guest_row.Goals as goal

pub returns-then-all-eq0-clause-decides : goal.returns-then-all-eq0-clause-decides
returns-then-all-eq0-clause-decides c =
    blank-guests _ _ _ c.requires.none (all-zero c.args.row.now (sym c.joined-all.ensures ∙ c.if-all-eq0.true))

pub returns-then-all-ge-GUESTS-clause-decides : goal.returns-then-all-ge-GUESTS-clause-decides
returns-then-all-ge-GUESTS-clause-decides c =
    λ g. all-low c.args.row.now _ _ c.requires.few g (omega (arith, c.joined-all.ensures))

pub guests-requires-clause-by_index : goal.guests-requires-clause-by_index
guests-requires-clause-by_index c =
    let low = low-all c.args.row.now (omega (arith, c.joined-all.ensures)) in
    λ i h. omega (arith, low i h, c.copy.auto.seen, c.requires.same)

pub returns-clause-decides : goal.returns-clause-decides
returns-clause-decides c =
    let row = c.args.row.now in
    let low = low-all row (omega (arith, c.joined-all.ensures)) in
    relay c.guests.result (λ f. free-guests row _ _ c.requires.past (λ i h. omega (arith, low i h, c.requires.size))
    (subst (λ (s : List Bool). Free row s) c.copy.ensures f))
    (λ f. subst (λ (s : List Bool). Free row s) (sym c.copy.ensures) (guests-free row _ _ f)) c.guests.ensures.decides
