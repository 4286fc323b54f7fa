-- Each part is 0 or-ed together, and so is what is left.
-- Assumes nothing.
use Rattle.std.proofs.Common.{◌≡◌, ℕ, List, ◌/◌, length, fold, bit_or, sym, ◌∙◌, ap, subst, true, nat_eq, eqb-true}
use Rattle.std.specs.List.{list_all}
use Rattle.rules.proofs.Zeros.{parts-zero}
use Rattle.rules.proofs.row.blank.Goals as goal

pub returns-then-zeros : goal.returns-then-zeros
returns-then-zeros c =
    let row = c.args.row.now in
    let front = c.as_chunks.ensures.front in
    λ e. parts-zero 128 (length row / 128) row
    (subst (λ (parts : List (List ℕ)). list_all (λ p. nat_eq (fold bit_or 0 p) 0) parts ≡ true) front (sym c.zeros.ensures ∙ c.if-zeros.true))
    (ap (fold bit_or 0) (sym c.as_chunks.ensures.back) ∙ sym c.joined.ensures ∙ eqb-true _ 0 e)
